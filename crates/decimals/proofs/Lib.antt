pub mod NormalLemmas
pub mod OrderLemmas
pub mod UnitsLemmas
pub mod AsDecimalLemmas
pub mod CutLemmas
pub mod FitLemmas
pub mod DigitLemmas
mod KnownValues
pub mod RoundTrip
pub mod ReadLaw
pub mod WrittenLemmas
pub mod PowerLemmas
pub mod PrintLemmas
pub mod ReadLemmas
pub mod SignificantLemmas
