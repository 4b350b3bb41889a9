-- The lines of Kepler's equation and of a step of Newton's rule, each in any arithmetic (Spacetrack Report No. 3, 1980,
-- SGP4; AIAA 2006-6753, appendix).
use Rattle.fixed_iv.specs.Arithmetic.{Arithmetic}

module _ (N : Arithmetic) where
  open N use {Number, ◌+◌, ◌-◌, ◌*◌, ◌/◌, whole}

  -- what is left of the equation: E + ay cos E - ax sin E - u
  abbrev pub residual : (u ax ay angle sine cosine : Number) → Number
  residual u ax ay angle sine cosine = angle + ay * cosine - ax * sine - u

  -- how steeply that rises with the angle: 1 - ay sin E - ax cos E
  abbrev pub rise : (ax ay sine cosine : Number) → Number
  rise ax ay sine cosine = whole 1 - ay * sine - ax * cosine

  -- where a step leads, and the rest of the way to the root: E, less what is left over its rise, and the rest
  abbrev pub stepped : (angle residual rise rest : Number) → Number
  stepped angle residual rise rest = angle - residual / rise + rest
