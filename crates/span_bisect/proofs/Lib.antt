pub mod GrownLemmas
pub mod StackLemmas
pub mod PieceLemmas
pub mod ReadingLemmas
pub mod MarkLemmas
