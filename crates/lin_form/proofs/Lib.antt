mod AheadLemmas
mod BandLemmas
mod BendLemmas
mod BetweenLemmas
mod CosineBendLemmas
mod LinLemmas
mod OnBendLemmas
mod SineBendLemmas
mod TieBendLemmas
pub mod PartLemmas
