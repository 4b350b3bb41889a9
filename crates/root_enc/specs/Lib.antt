pub mod Ends
pub mod Roots
