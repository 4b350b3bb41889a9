-- The sums as products taken in turn (Horner), which later proofs work with.
use Rattle.std.proofs.Common.{◌≡◌, ℕ, List, [], ◌∷◌, pos}
use Rattle.exact.specs.Rational.{ℚ, ◌-ℚ◌, ◌*ℚ◌, neg_ℚ, ratio, one_ℚ, zero_ℚ}
use Rattle.exact.proofs.RationalRing.{ring, reads}
use Rattle.sgp4_model.specs.AngleSums.{sine_sum, cosine_sum}

-- 1 - u / c1 * (1 - u / c2 * (..)), for divisors c1, c2, ..
abbrev pub horner : ℚ → List ℕ → ℚ
horner u [] = one_ℚ
horner u (c ∷ cs) = one_ℚ -ℚ ratio (pos 1) c *ℚ (u *ℚ horner u cs)

-- the divisors of the cosine past 2, and of the sine past 6
abbrev pub cosine_divisors : List ℕ
cosine_divisors = 12 ∷ 30 ∷ 56 ∷ 90 ∷ 132 ∷ 182 ∷ 240 ∷ 306 ∷ []

-- those of the sine past 6
abbrev pub sine_divisors : List ℕ
sine_divisors = 20 ∷ 42 ∷ 72 ∷ 110 ∷ 156 ∷ 210 ∷ 272 ∷ 342 ∷ []

-- what the cosine takes 1 less y^2/2 times
unfoldable pub cosine_rest : ℚ → ℚ
cosine_rest y = horner (y *ℚ y) cosine_divisors

-- what the sine takes y less y^3/6 times
unfoldable pub sine_rest : ℚ → ℚ
sine_rest y = horner (y *ℚ y) sine_divisors

-- the cosine's sum is 1 - y^2/2 times the rest
pub cosine_horner : (y : ℚ) → cosine_sum y ≡ one_ℚ -ℚ ratio (pos 1) 2 *ℚ (y *ℚ y *ℚ cosine_rest y)
unfolding cosine_sum cosine_rest
cosine_horner y = ring (y ∷ []) (search reads depth 200 fits 99999) tt

-- the sine's sum is y - y^3/6 times the rest
pub sine_horner : (y : ℚ) → sine_sum y ≡ y -ℚ ratio (pos 1) 6 *ℚ (y *ℚ y *ℚ y *ℚ sine_rest y)
unfolding sine_sum sine_rest
sine_horner y = ring (y ∷ []) (search reads depth 200 fits 99999) tt

-- the sine's sum is odd
pub sine_neg : (y : ℚ) → sine_sum (neg_ℚ y) ≡ neg_ℚ (sine_sum y)
unfolding sine_sum
sine_neg y = ring (y ∷ []) (search reads depth 90) tt

-- the cosine's sum is even
pub cosine_neg : (y : ℚ) → cosine_sum (neg_ℚ y) ≡ cosine_sum y
unfolding cosine_sum
cosine_neg y = ring (y ∷ []) (search reads depth 90) tt

-- the sine of 0
pub sine_zero : sine_sum zero_ℚ ≡ zero_ℚ
unfolding sine_sum
sine_zero = ring [] (search reads depth 90) tt
