-- What numerals say of given numbers.
use Rattle.std.specs.Prelude.{ℕ, ℤ, ltb, negsuc, pos, pred, ◌&&◌, ◌-ℤ◌, unsigned_abs}
use Rattle.exact.specs.Rational.{ℚ, ratio, ◌*ℚ◌}
use Rattle.exact.specs.Interval.{coef_max, coef_min, just, Coef}
use Rattle.fixed_iv.specs.Reach.{Reach, above_0, from_to, is_small, lowest, outer, reach_of, units_above, units_below}

-- the fraction n / d
abbrev pub fraction : ℤ → ℤ → Coef
fraction n d = record { num = n; under = pred (unsigned_abs d) }

-- how many units wide its tightest interval is: 0 or 1
abbrev pub width : Coef → ℕ
width c = unsigned_abs (units_above c -ℤ units_below c)

-- of the number n / d
unfoldable pub of_ratio : ℤ → ℤ → Reach
of_ratio n d =
    let c = fraction n d in
    record { ok = is_small (just c) && is_small (outer (reach_of (just c) (width c))); range = just c; spread = width c }

-- of the absolute value of a number whose bounds are above 0
unfoldable pub sized : Reach → Reach
sized r = record { ok = r.ok && ltb 0 (above_0 (lowest r)); range = r.range; spread = r.spread }

-- of an angle from -360 to 360 degrees, in radians
abbrev pub given_angle : Reach
given_angle = from_to (negsuc 6283) (pos 6284) 1000 10

-- of a drag term of at most 0.001 in size
abbrev pub given_drag : Reach
given_drag = from_to (negsuc 0) (pos 1) 1000 1

-- -2 J3 / J2 times a drag term
abbrev pub perigee_factor : ℚ → ℚ
perigee_factor bstar = bstar *ℚ ratio (pos 253881) 54130800

-- of that
abbrev pub given_perigee_drag : Reach
given_perigee_drag = from_to (negsuc 4) (pos 5) 1000000 1

-- of a drag term over an eccentricity above 0.0001
abbrev pub given_drag_over_eccentricity : Reach
given_drag_over_eccentricity = from_to (negsuc 9) (pos 10) 1 1

-- of a number that these numerals are of, or of 0
unfoldable pub or_zero : Reach → Reach
or_zero r =
    let none : Coef = record { num = pos 0; under = 0 } in
    record { ok = r.ok; range = record { low = coef_min r.range.low none; high = coef_max r.range.high none }; spread = r.spread }
