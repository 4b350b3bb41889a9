mod BoundLemmas
mod CoefficientLemmas
pub mod ConstantsExist
mod CosineLemmas
mod DensityExists
mod DensityLemmas
mod DragClaimLemmas
mod DragLemmas
mod EquationLemmas
pub mod FormLemmas
mod GivenLemmas
mod InitialLemmas
mod NumberLemmas
mod RateLemmas
mod SeriesLemmas
mod SizeLemmas
mod TakenNumerals
mod TermsExist
mod WeightLemmas
