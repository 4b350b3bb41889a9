pub mod CubeLemmas
pub mod PlainHeld
pub mod RootLemmas
pub mod TurnLemmas
