pub mod SmallNames
