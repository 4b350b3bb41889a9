-- The lines of the recovery that functions compute, each in any arithmetic (Spacetrack Report No. 3, 1980, SGP4;
-- AIAA 2006-6753, appendix).
use Rattle.std.specs.Prelude.{pos}
use Rattle.exact.specs.Rational.{ℚ, ratio as fraction, ◌*ℚ◌}
use Rattle.fixed_iv.specs.Arithmetic.{Arithmetic}
use Rattle.sgp4_model.specs.Numerals.{decimal, whole as of_whole}
use Rattle.sgp4_model.specs.Wgs72.{earth_radius_km, j2}
use Rattle.sgp4_motion.specs.Numerals.{radius_km, three_quarters_j2}

-- revolutions a day, in radians a minute
abbrev pub a_minute : (pi revolutions : ℚ) → ℚ
a_minute pi revolutions = revolutions *ℚ of_whole 2 *ℚ pi *ℚ fraction (pos 1) 1440

module _ (N : Arithmetic) where
  open N use {Number, ◌+◌, ◌-◌, ◌*◌, whole, ratio, given}

  -- 1 - e^2
  abbrev pub one_less_square : (e : Number) → Number
  one_less_square e = whole 1 - e * e

  -- 3 c^2 - 1
  abbrev pub con41 : (c2 : Number) → Number
  con41 c2 = whole 3 * c2 - whole 1

  -- 1 - 5 c^2
  abbrev pub con42 : (c2 : Number) → Number
  con42 c2 = whole 1 - whole 5 * c2

  -- the effect of the second harmonic, times the axis squared: 0.75 J2 (3 c^2 - 1) over b0 (1 - e^2)
  abbrev pub oblateness : (con41 b0 bb : Number) → Number × Number
  oblateness con41 b0 bb = (given (decimal 75 2 *ℚ j2) three_quarters_j2 * con41, b0 * bb)

  -- the effect at an axis: d1 over a^2
  abbrev pub effect_at : (d1 a : Number) → Number × Number
  effect_at d1 a = (d1, a * a)

  -- the axis less the effect at the first one: a1 (1 - d^2 - d (1/3 + 134/81 d^2))
  abbrev pub corrected_axis : (a1 de1 : Number) → Number
  corrected_axis a1 de1 = a1 * (whole 1 - de1 * de1 - de1 * (ratio (pos 1) 3 + ratio (pos 134) 81 * (de1 * de1)))

  -- the height of the perigee in kilometres: (rp - 1) times the Earth's radius
  abbrev pub perigee_km : (rp : Number) → Number
  perigee_km rp = (rp - whole 1) * given earth_radius_km radius_km

  -- the period: 2 pi over n0
  abbrev pub period : (pi n0 : Number) → Number × Number
  period pi n0 = (whole 2 * pi, n0)
