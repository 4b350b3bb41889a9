pub mod JudgedLemmas
mod ShadowLemmas
