-- Kepler's equation for the eccentric longitude (Spacetrack Report No. 3, 1980, SGP4; AIAA 2006-6753, appendix), up to a
-- tolerance of 2^-60.
use Rattle.exact.specs.Rational.{ℚ, ◌+ℚ◌, ◌-ℚ◌, ◌*ℚ◌, zero_ℚ}
use Rattle.sgp4_model.specs.Angle.{IsNear, IsSinCos, Pair, part}

-- what is left of the equation at an angle with this pair: E + ay cos E - ax sin E - u
abbrev pub kepler_residual : ℚ → ℚ → ℚ → ℚ → Pair → ℚ
kepler_residual u ax ay angle turn = angle +ℚ ay *ℚ turn.cosine -ℚ ax *ℚ turn.sine -ℚ u

-- the angle with this pair of it solves the equation
pub record SolvesKepler (pi u ax ay angle : ℚ) (turn : Pair) : Type 0 where
  pub pair : IsSinCos pi angle turn.sine turn.cosine
  pub residual : IsNear (part 60) (kepler_residual u ax ay angle turn) zero_ℚ

-- the angle with some pair of it solves the equation
pub record IsKepler (pi u ax ay angle : ℚ) : Type 0 where
  pub turn : Pair
  pub solves : SolvesKepler pi u ax ay angle turn
