mod AnomalyLemmas
mod AxisLemmas
mod GuardLemmas
mod SecularLemmas
