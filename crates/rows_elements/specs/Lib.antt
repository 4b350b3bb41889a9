pub mod SetRanges
pub mod SmallWindows
