pub mod CubeLemmas
pub mod SquareLemmas
pub mod WholeLemmas
