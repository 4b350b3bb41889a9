pub mod EpochLemmas
pub mod NumberLemmas
pub mod PointLemmas
pub mod RangeLemmas
mod KnownValues
