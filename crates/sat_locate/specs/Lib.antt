pub mod Edge
pub mod Found
