-- What is known of the motion of a set that is taken.
use Rattle.std.specs.Prelude.{pos}
use Rattle.exact.specs.Rational.{ratio, zero_ℚ, one_ℚ, ◌+ℚ◌, ◌*ℚ◌, ◌≤ℚ◌}
use Rattle.sgp4_model.specs.Angle.{IsNear, part}
use Rattle.sgp4_model.specs.MeanMotion.{MotionRecord, perigee_of}
use Rattle.sgp4_model.specs.Numerals.{whole, decimal}
use Rattle.sgp4_motion.specs.declared.limits.TheConstants.{LEAST_PERIGEE_KM}

-- The perigee is at least the least accepted one, the eccentricity from 0 to 0.2, and the semimajor axis at most 1.9214 Earth radii,
-- as a period below 225 minutes gives. The cosine of the inclination is at most 1, to its tolerance, and well above -1; the
-- tangent of half of the inclination is at most 24.5.
pub record IsTakenMotion (m : MotionRecord) : Type 0 where
  pub perigee : whole LEAST_PERIGEE_KM ≤ℚ perigee_of m
  pub least : zero_ℚ ≤ℚ m.e
  pub most : m.e ≤ℚ decimal 2 1
  pub axis : m.a ≤ℚ decimal 19214 4
  pub cosine : IsNear (part 60 +ℚ one_ℚ) m.c zero_ℚ
  pub above : ratio (pos 34) 10000 ≤ℚ one_ℚ +ℚ m.c
  pub bend : IsNear (ratio (pos 49) 2 *ℚ (one_ℚ +ℚ m.c)) m.si zero_ℚ
