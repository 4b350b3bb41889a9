-- Quotients of exact numbers.
use Rattle.std.specs.Prelude.{◌≡◌}
use Rattle.exact.specs.Rational.{ℚ, ◌*ℚ◌, zero_ℚ}

-- z is x divided by y, which is not 0
pub record IsQuotient (x y z : ℚ) : Type 0 where
  pub divisor : ¬ (y ≡ zero_ℚ)
  pub is : z *ℚ y ≡ x
