pub mod CertifiedLemmas
pub mod TimeLemmas
pub mod Turns
pub mod Near
pub mod Horner
pub mod GoodStep
pub mod Rests
pub mod CosineLaws
pub mod SineLaws
pub mod TieValue
pub mod PairLaws
pub mod AngleSpan
pub mod NearQuarters
pub mod FarQuarters
pub mod SamePairs
pub mod Lipschitz
pub mod Floor
pub mod OwnPair
pub mod Mirror
pub mod Pythagoras
mod KnownValues
pub mod InCode
pub mod Bends
pub mod PowerLemma
mod AngleBox
pub mod SineSlope
pub mod CosineSlope
pub mod OnSlope
pub mod TieSlope
pub mod Quarters
pub mod SumsSlope
pub mod PairSlopes
pub mod Quotients
pub mod Powers
mod Crossing
pub mod RootExists
pub mod RootLipschitz
pub mod MotionExists
pub mod KeplerExists
pub mod MeanExists
mod VectorBounds
mod PositionLines
pub mod PositionExists
pub mod PlaceExists
pub mod SolutionExists
pub mod RangeLemmas
pub mod DayExists
pub mod OffsetLemmas
pub mod SectorLemmas
mod FacingLemmas
pub mod RoundLemmas
