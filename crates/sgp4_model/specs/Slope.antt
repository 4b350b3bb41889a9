-- How a sine and a cosine change with the angle.
use Rattle.std.specs.Prelude.{pos}
use Rattle.exact.specs.Rational.{ℚ, ◌+ℚ◌, ◌-ℚ◌, ◌*ℚ◌, ratio, zero_ℚ, one_ℚ}
use Rattle.sgp4_model.specs.Angle.{IsPi, IsNear, IsSinCos, part}

-- The sine t and the cosine a of the angle x + d, where d is at most 1 in size, from those of x: t is s + d * c and
-- a is c - d * s, each up to half of d * d and 2^-54.
abbrev pub SinePairsFollowTheirSlope : Type 0
SinePairsFollowTheirSlope =
    (pi x d s c t a : ℚ) → IsPi pi → IsNear one_ℚ d zero_ℚ → IsSinCos pi x s c → IsSinCos pi (x +ℚ d) t a →
    IsNear (ratio (pos 1) 2 *ℚ (d *ℚ d) +ℚ part 54) t (s +ℚ d *ℚ c) × IsNear (ratio (pos 1) 2 *ℚ (d *ℚ d) +ℚ part 54) a (c -ℚ d *ℚ s)
