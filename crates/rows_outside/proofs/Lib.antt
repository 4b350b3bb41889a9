mod SmallFronts
