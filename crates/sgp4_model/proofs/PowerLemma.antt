-- The power lemma, for each power: it is its line and the bend, and the bend is bounded.
use Rattle.std.proofs.Common.{◌≡◌, arith, ℕ, zero, suc, ◌*◌, [], ◌∷◌, pos}
use Rattle.std.proofs.lemmas.Int.{ints}
use lib.IntN.{◌+ℤ◌}
use Rattle.exact.specs.Rational.{ℚ, ◌+ℚ◌, ◌-ℚ◌, ◌*ℚ◌, ◌^ℚ◌, ratio, zero_ℚ, one_ℚ}
use Rattle.exact.proofs.RationalRing.{ring, reads}
use Rattle.exact.proofs.Order.{◌⊕◌, ◌⊗◌, gap, known, le_by}
use Rattle.exact.proofs.Integers.{of_int_add, of_int_mul, of_int_is, ratio_is_product}
use Rattle.sgp4_model.specs.Angle.{IsNear}
use Rattle.sgp4_model.proofs.Bends.{bend}

-- one more, as a rational number
one_more : (n : ℕ) → ratio (pos (suc n)) 1 ≡ ratio (pos n) 1 +ℚ one_ℚ
one_more n = rw (← (of_int_is (pos (suc n))), ← (of_int_is (pos n)), ← (of_int_is (pos 1)), next n) (of_int_add (pos n) (pos 1))
  where
    next : (n : ℕ) → pos (suc n) ≡ pos n +ℤ pos 1
    next n = omega (arith, ints)

-- one power more: p is the power of y before, b the bend and k the factor of the line
one_power_more : (y z p b k u : ℚ) → u ≡ p *ℚ y +ℚ k *ℚ ((z -ℚ y) *ℚ p) +ℚ (z -ℚ y) *ℚ (z -ℚ y) *ℚ b →
    u *ℚ z ≡ p *ℚ y *ℚ y +ℚ (k +ℚ one_ℚ) *ℚ ((z -ℚ y) *ℚ (p *ℚ y)) +ℚ (z -ℚ y) *ℚ (z -ℚ y) *ℚ (z *ℚ b +ℚ k *ℚ p)
one_power_more y z p b k u e = rw e (ring (y ∷ z ∷ p ∷ b ∷ k ∷ []) (search reads depth 90) tt)

-- a power is its line and the bend
pub power_is_line_and_bend : (y z : ℚ) (n : ℕ) →
    z ^ℚ suc n ≡ y ^ℚ suc n +ℚ ratio (pos (suc n)) 1 *ℚ ((z -ℚ y) *ℚ y ^ℚ n) +ℚ (z -ℚ y) *ℚ (z -ℚ y) *ℚ bend y z n
unfolding ◌^ℚ◌
power_is_line_and_bend y z zero = ring (y ∷ z ∷ []) (search reads depth 90) tt
power_is_line_and_bend y z (suc n) =
    rw (one_more (suc n)) (one_power_more y z (y ^ℚ n) (bend y z n) (ratio (pos (suc n)) 1) (z ^ℚ suc n) (power_is_line_and_bend y z n))

-- a product of numbers that are at most a and b in size
product_small : {a b x y : ℚ} → IsNear a x zero_ℚ → IsNear b y zero_ℚ → IsNear (a *ℚ b) (x *ℚ y) zero_ℚ
product_small {a} {b} {x} {y} h k =
    record {
      above = le_by (a ∷ b ∷ x ∷ y ∷ []) (known 1 2 ⊗ (gap h.above ⊗ gap k.below ⊕ gap h.below ⊗ gap k.above)) (search reads depth 90) tt;
      below = le_by (a ∷ b ∷ x ∷ y ∷ []) (known 1 2 ⊗ (gap h.above ⊗ gap k.above ⊕ gap h.below ⊗ gap k.below)) (search reads depth 90) tt;
    }

-- a sum of two
sum_small : {a b x y : ℚ} → IsNear a x zero_ℚ → IsNear b y zero_ℚ → IsNear (a +ℚ b) (x +ℚ y) zero_ℚ
sum_small {a} {b} {x} {y} h k =
    record {
      above = le_by (a ∷ b ∷ x ∷ y ∷ []) (gap h.above ⊕ gap k.above) (search reads depth 90) tt;
      below = le_by (a ∷ b ∷ x ∷ y ∷ []) (gap h.below ⊕ gap k.below) (search reads depth 90) tt;
    }

-- a natural number is at most itself in size
natural_small : (n : ℕ) → IsNear (ratio (pos n) 1) (ratio (pos n) 1) zero_ℚ
natural_small n =
    record {
      above = le_by (ratio (pos n) 1 ∷ []) (known 0 1) (search reads depth 90) tt;
      below = le_by (ratio (pos n) 1 ∷ []) (known n 1 ⊕ known n 1) (search reads depth 90) tt;
    }

-- a power of a number that is at most b in size
power_small : {b y : ℚ} (n : ℕ) → IsNear b y zero_ℚ → IsNear (b ^ℚ n) (y ^ℚ n) zero_ℚ
unfolding ◌^ℚ◌
power_small zero h = natural_small 1
power_small (suc n) h = product_small (power_small n h) h

-- the bend is largest where both numbers are
bend_at_most : {b y z : ℚ} (n : ℕ) → IsNear b y zero_ℚ → IsNear b z zero_ℚ → IsNear (bend b b n) (bend y z n) zero_ℚ
bend_at_most zero h k = natural_small 0
bend_at_most (suc n) h k = sum_small (product_small k (bend_at_most n h k)) (product_small (natural_small (suc n)) (power_small n h))

-- half of n * (n + 1), for the next n
next_half : (n : ℕ) → ratio (pos (suc (suc n) * suc (suc (suc n)))) 2 ≡ ratio (pos (suc n * suc (suc n))) 2 +ℚ ratio (pos (suc (suc n))) 1
next_half n =
    rw (
      ratio_is_product (pos (suc (suc n) * suc (suc (suc n)))) 2,
      ratio_is_product (pos (suc n * suc (suc n))) 2,
      of_int_mul (pos (suc (suc n))) (pos (suc (suc (suc n)))),
      of_int_mul (pos (suc n)) (pos (suc (suc n))),
      of_int_is (pos (suc (suc (suc n)))),
      of_int_is (pos (suc (suc n))),
      of_int_is (pos (suc n)),
      one_more (suc (suc n)),
      one_more (suc n),
    )
    (ring (ratio (pos (suc n)) 1 ∷ []) (search reads depth 90) tt)

-- a power more, and r and k times it
gathered : (b p r k : ℚ) → b *ℚ (r *ℚ p) +ℚ k *ℚ (p *ℚ b) ≡ (r +ℚ k) *ℚ (p *ℚ b)
gathered b p r k = ring (b ∷ p ∷ r ∷ k ∷ []) (search reads depth 90) tt

-- there it is half of n * (n + 1) times a power
bend_at_one_place : (b : ℚ) (n : ℕ) → bend b b (suc n) ≡ ratio (pos (suc n * suc (suc n))) 2 *ℚ b ^ℚ n
unfolding ◌^ℚ◌
bend_at_one_place b zero = ring (b ∷ []) (search reads depth 90) tt
bend_at_one_place b (suc n) =
    rw (bend_at_one_place b n, next_half n) (gathered b (b ^ℚ n) (ratio (pos (suc n * suc (suc n))) 2) (ratio (pos (suc (suc n))) 1))

-- the bend of the power n + 2, for numbers that are at most b in size, is at most (n + 1) * (n + 2) / 2 * b^n in size
pub bend_small : {b y z : ℚ} (n : ℕ) → IsNear b y zero_ℚ → IsNear b z zero_ℚ → IsNear (ratio (pos (suc n * suc (suc n))) 2 *ℚ b ^ℚ n) (bend y z (suc n)) zero_ℚ
bend_small {b} n h k = rw (bend_at_one_place b n) at (bend_at_most (suc n) h k)
