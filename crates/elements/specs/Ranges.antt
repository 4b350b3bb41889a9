-- Tests of the ranges of an element set.
use Rattle.std.specs.Prelude.{ℤ, pos, neg_ℤ, Bool, not, ◌&&◌}
use Rattle.exact.specs.Rational.{ℚ, at_least_0, of_int, zero_ℚ, one_ℚ, ◌-ℚ◌}
use Rattle.decimals.specs.Decimal.{DecimalRecord, value}

-- the first number is at most the second
abbrev pub at_most : ℚ → ℚ → Bool
at_most x y = at_least_0 (y -ℚ x)

-- the first number is below the second
abbrev pub below : ℚ → ℚ → Bool
below x y = not (at_least_0 (x -ℚ y))

-- a mean motion is above 0
abbrev pub is_motion : DecimalRecord → Bool
is_motion d = below zero_ℚ (value d)

-- an eccentricity is from 0 to below 1
abbrev pub is_eccentricity : DecimalRecord → Bool
is_eccentricity d = at_most zero_ℚ (value d) && below (value d) one_ℚ

-- the decimal lies between two whole numbers, both included
abbrev pub is_from_to : ℤ → ℤ → DecimalRecord → Bool
is_from_to low high d = at_most (of_int low) (value d) && at_most (value d) (of_int high)

-- an inclination is from 0 to 180 degrees
abbrev pub is_inclination : DecimalRecord → Bool
is_inclination = is_from_to (pos 0) (pos 180)

-- another angle is from -360 to 360 degrees
abbrev pub is_angle : DecimalRecord → Bool
is_angle = is_from_to (neg_ℤ (pos 360)) (pos 360)
