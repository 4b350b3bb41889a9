mod FateLemmas
mod FillLemmas
mod KeptLemmas
mod ListLemmas
pub mod NoneLostLemmas
mod PlanLemmas
mod ReaderLemmas
mod RowLemmas
mod StepLemmas
mod TableLemmas
mod TrackLemmas
