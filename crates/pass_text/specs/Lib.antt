pub mod CatalogueFaults
pub mod DayLayout
pub mod LocateLayout
pub mod Refusals
pub mod SatLine
pub mod ShowLayout
pub mod StationFaults
