mod BendLemmas
pub mod CellLemmas
mod CraftLemmas
pub mod DayLemmas
mod DistanceLemmas
mod FoundLemmas
mod GuardLemmas
mod LatitudeLemmas
mod LiftLemmas
mod LitLemmas
mod MomentLemmas
mod NearOrbitLemmas
mod OrbitLemmas
mod OverLemmas
mod PeriodicLemmas
mod SceneLemmas
mod SideLemmas
mod SolutionLemmas
mod SomePi
mod SurveyLemmas
mod TakenBoxesLemmas
mod WidthLemmas
