pub mod Guard
pub mod Lines
pub mod Raised
pub mod Secular
