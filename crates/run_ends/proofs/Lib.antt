pub mod CommandLemmas
pub mod MappedLemmas
pub mod OutcomeLemmas
pub mod PrintedLemmas
