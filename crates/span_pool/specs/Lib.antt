pub mod Pool
pub mod Record
pub mod Slots
