pub mod SmallCounts
pub mod SmallGrowths
pub mod SmallLoads
