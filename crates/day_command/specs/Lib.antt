pub mod Day
pub mod Whole
