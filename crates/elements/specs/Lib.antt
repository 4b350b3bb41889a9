pub mod Elements
pub mod Offset
pub mod Ranges
pub mod Steps
pub mod Window
