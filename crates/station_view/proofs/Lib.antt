mod AlongLemmas
pub mod DegreeLemmas
mod JudgeLemmas
mod ClassLemmas
mod ClassReach
mod Classes
mod FarLemmas
mod FineLemmas
pub mod LengthLemmas
mod MaskLemmas
mod HeightLemmas
mod PlaceLemmas
mod NormLemmas
mod OneLemmas
mod RangeLemmas
pub mod RoundLemmas
mod ScaleLemmas
mod SightClasses
mod SpanLemmas
mod SightLawLemmas
