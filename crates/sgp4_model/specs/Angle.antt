-- Sine and cosine of an angle: sums at the angle less its quarter turns, up to a tolerance.
use Rattle.std.specs.Prelude.{◌≡◌, ℕ, zero, suc, ◌%◌, ◌-◌, ◌^◌, ℤ, pos, negsuc}
use Rattle.exact.specs.Rational.{ℚ, ◌+ℚ◌, ◌-ℚ◌, ◌*ℚ◌, neg_ℚ, ratio, of_int, ◌≤ℚ◌}
use Rattle.sgp4_model.specs.AngleSums.{sine_sum, cosine_sum}

-- the lower end of the bracket of pi, 36 decimals
abbrev pub least_pi : ℚ
least_pi = ratio (pos 3141592653589793238462643383279502884) (10 ^ 36)

-- the number lies in the bracket of pi, which is 10^-36 wide
pub record IsPi (pi : ℚ) : Type 0 where
  pub low : least_pi ≤ℚ pi
  pub high : pi ≤ℚ least_pi +ℚ ratio (pos 1) (10 ^ 36)

-- a and b differ by at most e
pub record IsNear (e a b : ℚ) : Type 0 where
  pub above : a ≤ℚ b +ℚ e
  pub below : b ≤ℚ a +ℚ e

-- 2^-n
abbrev pub part : ℕ → ℚ
part n = ratio (pos 1) (2 ^ n)

-- the whole number k modulo 4
unfoldable pub quadrant : ℤ → ℕ
quadrant (pos n) = n % 4
quadrant (negsuc n) = 3 - n % 4

-- a sine and a cosine
pub record Pair : Type 0 where
  pub sine : ℚ
  pub cosine : ℚ

-- (s, c), (c, -s), (-s, -c) or (-c, s)
unfoldable pub turned : ℕ → Pair → Pair
turned zero p = p
turned (suc zero) p = record { sine = p.cosine; cosine = neg_ℚ p.sine }
turned (suc (suc zero)) p = record { sine = neg_ℚ p.sine; cosine = neg_ℚ p.cosine }
turned (suc (suc (suc n))) p = record { sine = neg_ℚ p.cosine; cosine = p.sine }

-- x less k quarter turns
abbrev pub reduced : ℚ → ℚ → ℤ → ℚ
reduced pi x k = x -ℚ of_int k *ℚ (ratio (pos 1) 2 *ℚ pi)

-- at most an eighth of a turn to either side of 0
pub record IsReduced (pi y : ℚ) : Type 0 where
  pub low : neg_ℚ (ratio (pos 1) 4 *ℚ pi) ≤ℚ y
  pub high : y ≤ℚ ratio (pos 1) 4 *ℚ pi

-- s and c are a sine and a cosine of x: those of x less some quarter turns, turned back.
-- Where x lies half way two numbers of quarter turns are allowed.
pub record IsSinCos (pi x s c : ℚ) : Type 0 where
  pub quarters : ℤ
  pub inner : Pair
  pub in_range : IsReduced pi (reduced pi x quarters)
  pub sine_near : IsNear (part 60) inner.sine (sine_sum (reduced pi x quarters))
  pub cosine_near : IsNear (part 60) inner.cosine (cosine_sum (reduced pi x quarters))
  pub sine_is : s ≡ (turned (quadrant quarters) inner).sine
  pub cosine_is : c ≡ (turned (quadrant quarters) inner).cosine
