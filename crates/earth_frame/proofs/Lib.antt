mod AngleLemmas
mod CenturyLemmas
mod HalfTurnLemmas
pub mod OffsetLemmas
pub mod SlimLemmas
mod SlowLemmas
pub mod SpreadLemmas
mod StartLemmas
mod SunLemmas
