-- How far the bracket of pi and the tolerances of roots and of pairs reach.
use Rattle.std.specs.Prelude.{pos, negsuc, ◌^◌}
use Rattle.exact.specs.Rational.{◌-ℚ◌, ◌*ℚ◌, neg_ℚ, ratio, zero_ℚ, one_ℚ}
use Rattle.sgp4_model.specs.Angle.{IsPi, IsSinCos, least_pi, part}
use Rattle.sgp4_model.specs.PairLaws.{IsModest}
use Rattle.sgp4_model.specs.Root.{IsSqrt, IsCbrt2}

-- both ends of the bracket, and a tenth of its width past each
pub record PiRows : Type 0 where
  pub low : IsPi (ratio (pos 3141592653589793238462643383279502884) (10 ^ 36))
  pub high : IsPi (ratio (pos 3141592653589793238462643383279502885) (10 ^ 36))
  pub below : ¬ (IsPi (ratio (pos 31415926535897932384626433832795028839) (10 ^ 37)))
  pub above : ¬ (IsPi (ratio (pos 31415926535897932384626433832795028851) (10 ^ 37)))

-- a root is not negative, nor is its number, and its square is as far from the number as the tolerance lets it
pub record SquareRootRows : Type 0 where
  pub of_four : IsSqrt (ratio (pos 4) 1) (ratio (pos 2) 1)
  pub other_sign : ¬ (IsSqrt (ratio (pos 4) 1) (ratio (negsuc 1) 1))
  pub at_the_tolerance : IsSqrt zero_ℚ (part 30)
  pub past_the_tolerance : ¬ (IsSqrt zero_ℚ (part 29))
  pub of_a_negative : ¬ (IsSqrt (ratio (negsuc 0) (2 ^ 60)) zero_ℚ)

-- the same of the cube root of the square, which is positive, and so is its number
pub record CubeRootRows : Type 0 where
  pub of_eight : IsCbrt2 (ratio (pos 8) 1) (ratio (pos 4) 1)
  pub of_the_number : ¬ (IsCbrt2 (ratio (pos 8) 1) (ratio (pos 2) 1))
  pub at_the_tolerance : IsCbrt2 (part 60) (part 20)
  pub past_the_tolerance : ¬ (IsCbrt2 (part 60) (part 19))
  pub of_zero : ¬ (IsCbrt2 zero_ℚ (part 20))
  pub zero : ¬ (IsCbrt2 (part 40) zero_ℚ)

-- the pairs at whole quarter turns, and a pair as far from the sums as the tolerance lets it
pub record PairRows : Type 0 where
  pub none : IsSinCos least_pi zero_ℚ zero_ℚ one_ℚ
  pub quarter : IsSinCos least_pi (ratio (pos 1) 2 *ℚ least_pi) one_ℚ zero_ℚ
  pub half : IsSinCos least_pi least_pi zero_ℚ (neg_ℚ one_ℚ)
  pub quarter_back : IsSinCos least_pi (neg_ℚ (ratio (pos 1) 2 *ℚ least_pi)) (neg_ℚ one_ℚ) zero_ℚ
  pub at_the_tolerance : IsSinCos least_pi zero_ℚ (part 60) (one_ℚ -ℚ part 60)

-- the angles of which sines are Lipschitz: up to 2^20 to either side
pub record ModestRows : Type 0 where
  pub least : IsModest (ratio (negsuc 1048575) 1)
  pub most : IsModest (ratio (pos 1048576) 1)
