mod BallLemmas
mod CaseLemmas
mod DistanceLemmas
mod GuessLemmas
mod IvLemmas
mod KnownSpreads
mod PointLemmas
mod RadiusLemmas
mod RestLemmas
mod RoundLemmas
mod RootLemmas
pub mod SizeLemmas
pub mod SizedLemmas
mod SpreadLemmas
