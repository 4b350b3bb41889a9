pub mod Bend
pub mod Between
pub mod Covered
pub mod Parts
