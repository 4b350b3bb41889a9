-- What the ends of intervals say of held numbers: apart, of a sign, near.
use Rattle.std.proofs.Common.{arith, ◌⊎◌, inl, inr, [], ◌∷◌, subst, ℕ, ◌+◌, ◌^◌, pos, negsuc, ◌≤ℤ◌, ◌<ℤ◌}
use Rattle.std.proofs.lemmas.Int.{ints}
use Rattle.exact.specs.Rational.{ℚ, ◌+ℚ◌, ◌-ℚ◌, ◌*ℚ◌, neg_ℚ, of_int, ratio, zero_ℚ, ◌≤ℚ◌, ◌<ℚ◌}
use Rattle.exact.proofs.RationalRing.{ring, reads}
use Rattle.exact.proofs.Order.{gap, known, le_by, same_sign, ◌⊕◌, ◌⊗◌}
use Rattle.exact.proofs.Integers.{of_int_add, of_int_is, of_int_le, ratio_is_product}
use Rattle.exact.proofs.Strict.{Positive, lt_of_gap, not_both, positive_known, positive_sum}
use Rattle.fixed_iv.specs.Ends.{in_units}
use Rattle.fixed_iv.specs.Extent.{width_of}
use Rattle.fixed_iv.specs.Holds.{Holds, IsBounded}
use Rattle.fixed_iv.specs.declared.iv.Iv.{Iv}
use Rattle.fixed_iv.proofs.HeldLemmas.{holds_difference, holds_product}
use Rattle.fixed_iv.proofs.OuterLemmas.{width_is}
use Rattle.station_view.specs.Bounds.{AreAtMost, IsCross, IsNoWiderThan, LiesOutside}
use Rattle.station_view.specs.declared.sector.EnclosedSector.{EnclosedSector}

-- the cross product of held numbers is held
pub holds_cross : {a b c d r : Iv} {x y z w : ℚ} → IsCross a b c d r → Holds a x → Holds b y → Holds c z → Holds d w → Holds r (x *ℚ y -ℚ z *ℚ w)
holds_cross k hx hy hz hw = holds_difference k.is (holds_product k.of_left hx hy) (holds_product k.of_right hz hw)

-- the numbers of an interval lie below those of one that begins after its end
pub apart : {v w : Iv} {x y : ℚ} → v.hi <ℤ w.lo → Holds v x → Holds w y → x <ℚ y
apart {v} {w} {x} {y} p h k =
    let high : in_units x ≤ℚ of_int v.hi = h.high (omega (arith, ints, p, w.low_end.most)) in
    let low : of_int w.lo ≤ℚ in_units y = k.low (omega (arith, ints, p, v.high_end.least)) in
    let one : of_int v.hi +ℚ ratio (pos 1) 1 ≤ℚ of_int w.lo = rw (← of_int_is (pos 1), ← of_int_add) (of_int_le (omega (arith, ints, p))) in
    lt_of_gap (far x y (le_by (of_int v.hi ∷ of_int w.lo ∷ x ∷ y ∷ []) (known 1 281474976710656 ⊗ (gap one ⊕ gap low ⊕ gap high)) (search reads depth 90) tt))
  where
    far : (x y : ℚ) → x +ℚ ratio (pos 1) 281474976710656 ≤ℚ y → Positive (y -ℚ x)
    far x y h = subst Positive (ring (x ∷ y ∷ []) (search reads depth 90) tt) (positive_sum (positive_known 0 281474976710656) (gap h))

-- an interval below 0 holds no number of at least 0
pub no_more_than : {v : Iv} {x : ℚ} → v.hi <ℤ pos 0 → Holds v x → zero_ℚ ≤ℚ x → ⊥
no_more_than {v} {x} p h least =
    let one : of_int v.hi ≤ℚ ratio (negsuc 0) 1 = rw (← of_int_is (negsuc 0)) (of_int_le (omega (arith, ints, p))) in
    let high : in_units x ≤ℚ of_int v.hi = h.high (omega (arith, ints, p)) in
    clash (le_by (of_int v.hi ∷ x ∷ []) (known 281474976710656 1 ⊗ gap least ⊕ gap one ⊕ gap high) (search reads depth 90) tt)
  where
    clash : ratio (pos 1) 1 ≤ℚ zero_ℚ → ⊥
    clash h = not_both (positive_known 0 1) (same_sign (ring [] (search reads depth 90) tt) (gap h))

-- intervals that reach 0 do not lie below it
pub reaches : (east north : Iv) (e : EnclosedSector) {past short : Iv} → IsCross e.cos_from east e.sin_from north past → IsCross e.sin_to north e.cos_to east short →
    pos 0 ≤ℤ past.hi → pos 0 ≤ℤ short.hi → ¬ LiesOutside east north e
reaches east north e {past} {short} of_past of_short p q out =
    by (out past short of_past of_short)
  where
    by : (past.hi <ℤ pos 0) ⊎ (short.hi <ℤ pos 0) → ⊥
    by (inl h) = omega (arith, ints, h, p)
    by (inr h) = omega (arith, ints, h, q)

-- so many units
units : {b : ℚ} (n : ℕ) → AreAtMost b n → of_int (pos n) *ℚ ratio (pos 1) (2 ^ 48) ≤ℚ b
units n h = rw ratio_is_product at h

-- a number of an interval that is no wider than b and reaches 0 is at least -b
pub touched : {v : Iv} {x b : ℚ} → IsNoWiderThan b v → pos 0 ≤ℤ v.hi → Holds v x → neg_ℚ b ≤ℚ x
touched {v} {x} {b} n p h =
    let w = width_of v in
    let wide = units w n.width in
    let low : of_int v.lo ≤ℚ in_units x = h.low n.bounded.low in
    let near : of_int (pos 0) ≤ℚ of_int v.lo +ℚ of_int (pos w) = rw (← of_int_add) (of_int_le (omega (arith, ints, p, width_is v))) in
    by w n.width wide low (rw (of_int_is (pos 0)) at near)
  where
    by : (w : ℕ) → AreAtMost b w → of_int (pos w) *ℚ ratio (pos 1) (2 ^ 48) ≤ℚ b → of_int v.lo ≤ℚ in_units x → ratio (pos 0) 1 ≤ℚ of_int v.lo +ℚ of_int (pos w) → neg_ℚ b ≤ℚ x
    by w _ wide low near = le_by (of_int v.lo ∷ of_int (pos w) ∷ x ∷ b ∷ []) (gap wide ⊕ known 1 281474976710656 ⊗ (gap low ⊕ gap near)) (search reads depth 90) tt

-- Two intervals whose widths add up to b at most, of which the first begins before the second ends: a number of the
-- first exceeds one of the second by b at most.
pub exceeds_by : {v w : Iv} {x y b : ℚ} → IsBounded v → IsBounded w → AreAtMost b (width_of v + width_of w) → v.lo ≤ℤ w.hi → Holds v x → Holds w y → x ≤ℚ y +ℚ b
exceeds_by {v} {w} {x} {y} {b} bv bw n p h k =
    let m = width_of v + width_of w in
    let near : of_int v.hi ≤ℚ of_int w.lo +ℚ of_int (pos m) = rw (← of_int_add) (of_int_le (omega (arith, ints, p, width_is v, width_is w))) in
    by m (units m n) (h.high bv.high) (k.low bw.low) near
  where
    by : (m : ℕ) → of_int (pos m) *ℚ ratio (pos 1) (2 ^ 48) ≤ℚ b → in_units x ≤ℚ of_int v.hi → of_int w.lo ≤ℚ in_units y → of_int v.hi ≤ℚ of_int w.lo +ℚ of_int (pos m) → x ≤ℚ y +ℚ b
    by m wide high low near = le_by (of_int v.hi ∷ of_int w.lo ∷ of_int (pos m) ∷ x ∷ y ∷ b ∷ []) (gap wide ⊕ known 1 281474976710656 ⊗ (gap high ⊕ gap low ⊕ gap near)) (search reads depth 90) tt

-- And of which the second begins before the first ends: a number of the second exceeds one of the first by b at most.
pub falls_short_by : {v w : Iv} {x y b : ℚ} → IsBounded v → IsBounded w → AreAtMost b (width_of v + width_of w) → w.lo ≤ℤ v.hi → Holds v x → Holds w y → y ≤ℚ x +ℚ b
falls_short_by {v} {w} {x} {y} {b} bv bw n p h k =
    let m = width_of v + width_of w in
    let near : of_int w.hi ≤ℚ of_int v.lo +ℚ of_int (pos m) = rw (← of_int_add) (of_int_le (omega (arith, ints, p, width_is v, width_is w))) in
    by m (units m n) (k.high bw.high) (h.low bv.low) near
  where
    by : (m : ℕ) → of_int (pos m) *ℚ ratio (pos 1) (2 ^ 48) ≤ℚ b → in_units y ≤ℚ of_int w.hi → of_int v.lo ≤ℚ in_units x → of_int w.hi ≤ℚ of_int v.lo +ℚ of_int (pos m) → y ≤ℚ x +ℚ b
    by m wide high low near = le_by (of_int w.hi ∷ of_int v.lo ∷ of_int (pos m) ∷ x ∷ y ∷ b ∷ []) (gap wide ⊕ known 1 281474976710656 ⊗ (gap high ⊕ gap low ⊕ gap near)) (search reads depth 90) tt
