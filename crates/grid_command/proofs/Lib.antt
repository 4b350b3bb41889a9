mod CountedLemmas
mod FitLemmas
mod GeneratedLemmas
mod RowLemmas
mod TallyLemmas
mod TextLemmas
pub mod TickLemmas
