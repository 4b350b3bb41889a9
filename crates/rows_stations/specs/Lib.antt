pub mod SmallRecords
