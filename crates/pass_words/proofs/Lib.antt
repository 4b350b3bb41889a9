pub mod NameLemmas
pub mod NumberLemmas
pub mod OptionsLemmas
pub mod RequestLemmas
pub mod ScanLemmas
