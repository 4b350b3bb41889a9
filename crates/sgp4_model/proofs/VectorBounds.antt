-- Signs that follow where the components of the eccentricity vector are at most 1 - 2^-48 in all.
use Rattle.std.proofs.Common.{◌+◌, ◌-◌, ◌^◌, [], ◌∷◌, subst}
use Rattle.exact.specs.Rational.{ℚ, ◌+ℚ◌, ◌-ℚ◌, ◌*ℚ◌, ◌^ℚ◌, one_ℚ, zero_ℚ, abs_ℚ, ◌≤ℚ◌, ◌<ℚ◌}
use Rattle.exact.proofs.RationalRing.{ring, reads}
use Rattle.exact.proofs.Order.{◌⊕◌, ◌⊗◌, gap, known, not_negative, same_sign}
use Rattle.exact.proofs.Bounds.{abs_not_negative, le_abs, neg_le_abs}
use Rattle.exact.proofs.Strict.{Positive, positive_by, not_both, positive_sum, positive_known, positive_weak, positive_gap, lt_by}
use Rattle.sgp4_model.specs.Angle.{IsNear, part}

-- the components are less than 1 in all
pub sum_below_one : (x y : ℚ) → abs_ℚ x +ℚ abs_ℚ y ≤ℚ one_ℚ -ℚ part 48 → abs_ℚ x +ℚ abs_ℚ y <ℚ one_ℚ
sum_below_one x y h = lt_by (abs_ℚ x ∷ abs_ℚ y ∷ []) (positive_sum (positive_known 0 (2 ^ 48)) (gap h)) (search reads depth 90) tt

-- the square of the length is less than 1
pub length_below_one : (x y : ℚ) → abs_ℚ x +ℚ abs_ℚ y ≤ℚ one_ℚ -ℚ part 48 → Positive (one_ℚ -ℚ (x ^ℚ 2 +ℚ y ^ℚ 2))
length_below_one x y h =
    subst Positive (ring (x ∷ y ∷ abs_ℚ x ∷ abs_ℚ y ∷ []) (search reads depth 90) tt)
    (positive_sum (positive_known 0 (2 ^ 48))
    (gap h ⊗ (known 1 1 ⊕ abs_not_negative x ⊕ abs_not_negative y)
    ⊕ known 1 (2 ^ 48) ⊗ (abs_not_negative x ⊕ abs_not_negative y)
    ⊕ known 2 1 ⊗ abs_not_negative x ⊗ abs_not_negative y
    ⊕ gap (le_abs x) ⊗ gap (neg_le_abs x)
    ⊕ gap (le_abs y) ⊗ gap (neg_le_abs y)))

-- the inner product with a sine and a cosine is less than 1
pub product_below_one : (x y s c : ℚ) → abs_ℚ x +ℚ abs_ℚ y ≤ℚ one_ℚ -ℚ part 48 →
    IsNear (part 60 +ℚ one_ℚ) s zero_ℚ → IsNear (part 60 +ℚ one_ℚ) c zero_ℚ → Positive (one_ℚ -ℚ (x *ℚ c +ℚ y *ℚ s))
product_below_one x y s c h sine cosine =
    subst Positive (ring (x ∷ y ∷ s ∷ c ∷ abs_ℚ x ∷ abs_ℚ y ∷ []) (search reads depth 90) tt)
    (positive_sum (positive_known (2 ^ 60 - 2 ^ 48) (2 ^ 108))
    (known (2 ^ 60 + 1) (2 ^ 60) ⊗ gap h
    ⊕ known 1 2 ⊗ (gap (le_abs x) ⊗ gap cosine.below ⊕ gap (neg_le_abs x) ⊗ gap cosine.above)
    ⊕ known 1 2 ⊗ (gap (le_abs y) ⊗ gap sine.below ⊕ gap (neg_le_abs y) ⊗ gap sine.above)))

-- a number above 0
pub positive_number : {x : ℚ} → zero_ℚ <ℚ x → Positive x
positive_number {x} h = subst Positive (ring (x ∷ []) (search reads depth 90) tt) (positive_gap h)

-- a factor of a positive product is positive where the other one is
pub positive_factor : {x y : ℚ} → Positive (x *ℚ y) → Positive y → Positive x
positive_factor {x} {y} h k = positive_by (λ n. not_both h (same_sign (ring (x ∷ y ∷ []) (search reads depth 90) tt) (n ⊗ positive_weak k)))

-- 1 and a number that is not negative
pub positive_above_one : {x : ℚ} → zero_ℚ ≤ℚ x → Positive (one_ℚ +ℚ x)
positive_above_one h = positive_sum (positive_known 0 1) (not_negative h)
