mod EdgeLemmas
mod FoundLemmas
