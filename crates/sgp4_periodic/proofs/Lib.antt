mod EquationLemmas
mod ExistLemmas
mod GuardLemmas
pub mod PairLemmas
pub mod PlaceLemmas
