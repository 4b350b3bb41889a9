-- Angles that are given in degrees.
use Rattle.exact.specs.Rational.{ℚ, ◌*ℚ◌, ratio}
use Rattle.std.specs.Prelude.{pos}
use Rattle.sgp4_model.specs.Angle.{IsSinCos, Pair}

-- so many degrees in radians
abbrev pub radians : ℚ → ℚ → ℚ
radians pi degrees = degrees *ℚ pi *ℚ ratio (pos 1) 180

-- a sine and a cosine of an angle in degrees
abbrev pub IsPairOfDegrees : ℚ → ℚ → Pair → Type 0
IsPairOfDegrees pi degrees pair = IsSinCos pi (radians pi degrees) pair.sine pair.cosine
