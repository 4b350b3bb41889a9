pub mod BorderLemmas
pub mod FlatLemmas
pub mod InRangeLemmas
pub mod KeyLemmas
pub mod MaskLemmas
pub mod ReadLemmas
pub mod RowLemmas
