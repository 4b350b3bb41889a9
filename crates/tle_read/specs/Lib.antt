pub mod CheckDigit
pub mod Columns
pub mod Fields
pub mod Forms
pub mod LineOne
pub mod LineTwo
pub mod Ranges
pub mod TwoLine
