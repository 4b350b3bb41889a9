-- Square roots and cube roots of squares, up to a tolerance of 2^-60.
use Rattle.exact.specs.Rational.{ℚ, ◌*ℚ◌, zero_ℚ, ◌≤ℚ◌, ◌<ℚ◌}
use Rattle.sgp4_model.specs.Angle.{IsNear, part}

-- r is a square root of x: neither is negative, and the square of r is x, up to 2^-60
pub record IsSqrt (x r : ℚ) : Type 0 where
  pub argument : zero_ℚ ≤ℚ x
  pub root : zero_ℚ ≤ℚ r
  pub square : IsNear (part 60) (r *ℚ r) x

-- r is x to the power 2/3: both are positive, and the cube of r is the square of x, up to 2^-60
pub record IsCbrt2 (x r : ℚ) : Type 0 where
  pub argument : zero_ℚ <ℚ x
  pub root : zero_ℚ <ℚ r
  pub cube : IsNear (part 60) (r *ℚ r *ℚ r) (x *ℚ x)
