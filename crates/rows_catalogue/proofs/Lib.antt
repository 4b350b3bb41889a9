mod SmallNames
