pub mod LawLemmas
pub mod LostLemmas
pub mod NumberedLemmas
pub mod PartLemmas
mod RowLemmas
pub mod TableLemmas
