pub mod CoveredConsts
pub mod ExpectedHeld
