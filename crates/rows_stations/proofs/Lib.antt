mod SmallRecords
