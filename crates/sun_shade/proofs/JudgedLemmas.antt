-- The sign of a number, by the ends of an interval that holds it.
use Rattle.std.proofs.Common.{arith, [], ◌∷◌, subst, pos, negsuc, ◌<ℤ◌}
use Rattle.std.proofs.lemmas.Int.{ints}
use Rattle.exact.specs.Rational.{ℚ, ◌-ℚ◌, neg_ℚ, of_int, ratio, zero_ℚ, ◌≤ℚ◌, ◌<ℚ◌}
use Rattle.exact.proofs.RationalRing.{ring, reads}
use Rattle.exact.proofs.Order.{gap, known, le_by, ◌⊕◌, ◌⊗◌}
use Rattle.exact.proofs.Integers.{of_int_is, of_int_le}
use Rattle.exact.proofs.Strict.{Positive, lt_of_gap, positive_known, positive_sum}
use Rattle.fixed_iv.specs.Ends.{in_units}
use Rattle.fixed_iv.specs.Holds.{Holds}
use Rattle.fixed_iv.specs.declared.iv.Iv.{Iv}

pub above_0 : {v : Iv} {x : ℚ} → pos 0 <ℤ v.lo → Holds v x → zero_ℚ <ℚ x
above_0 {v} {x} p h =
    let one : ratio (pos 1) 1 ≤ℚ of_int v.lo = rw (← of_int_is (pos 1)) (of_int_le (omega (arith, ints, p))) in
    let low : of_int v.lo ≤ℚ in_units x = h.low (omega (arith, ints, p)) in
    lt_of_gap (far x (le_by (of_int v.lo ∷ x ∷ []) (known 1 281474976710656 ⊗ (gap one ⊕ gap low)) (search reads depth 90) tt))
  where
    far : (x : ℚ) → ratio (pos 1) 281474976710656 ≤ℚ x → Positive (x -ℚ zero_ℚ)
    far x h = subst Positive (ring (x ∷ []) (search reads depth 90) tt) (positive_sum (positive_known 0 281474976710656) (gap h))

pub below_0 : {v : Iv} {x : ℚ} → v.hi <ℤ pos 0 → Holds v x → x <ℚ zero_ℚ
below_0 {v} {x} p h =
    let one : of_int v.hi ≤ℚ ratio (negsuc 0) 1 = rw (← of_int_is (negsuc 0)) (of_int_le (omega (arith, ints, p))) in
    let high : in_units x ≤ℚ of_int v.hi = h.high (omega (arith, ints, p)) in
    lt_of_gap (far x (le_by (of_int v.hi ∷ x ∷ []) (known 1 281474976710656 ⊗ (gap one ⊕ gap high)) (search reads depth 90) tt))
  where
    far : (x : ℚ) → ratio (pos 1) 281474976710656 ≤ℚ neg_ℚ x → Positive (zero_ℚ -ℚ x)
    far x h = subst Positive (ring (x ∷ []) (search reads depth 90) tt) (positive_sum (positive_known 0 281474976710656) (gap h))
