-- The guards on the eccentricity and on the semimajor axis, by the ends of their bounds.
use Rattle.std.proofs.Common.{[], ◌∷◌, arith, ℤ, pos, negsuc, ◌≤ℤ◌, ◌<ℤ◌, ◌*ℤ◌, ◌^◌, T, not, Bool, true, false}
use Rattle.std.proofs.lemmas.Int.{ints, by_lt_z}
use native.Mathlib.Nat.{zero-lt-suc}
use Rattle.exact.specs.Rational.{ℚ, of_int, ratio, number, neg_ℚ, one_ℚ, ◌≤ℚ◌, ◌<ℚ◌, ◌-ℚ◌, at_least_0}
use Rattle.exact.proofs.Fractions.{le_of_cross, cross_of_le}
use Rattle.exact.proofs.Integers.{of_int_is, of_int_le}
use Rattle.exact.proofs.Order.{gap, known, le_by, le_trans, ◌⊕◌, ◌⊗◌}
use Rattle.exact.proofs.RationalRing.{reads}
use Rattle.exact.proofs.Strict.{lt_by, positive_known, positive_sum}
use Rattle.exact.proofs.Tests.{by_test, clash}
use Rattle.fixed_iv.specs.Ends.{in_units}
use Rattle.fixed_iv.specs.Holds.{Holds}
use Rattle.fixed_iv.specs.declared.iv.Iv.{Iv}
use Rattle.sgp4_drag.specs.Guard.{AreAtLeast1, IsInsideGuard}
use Rattle.sgp4_model.specs.MeanElements.{IsEccentricityGuarded}
use Rattle.sgp4_model.specs.Numerals.{decimal}

above_low : (n : ℤ) → negsuc 281474976709 ≤ℤ n → neg_ℚ (decimal 1 3) ≤ℚ ratio n (2 ^ 48)
unfolding number ratio neg_ℚ
above_low n h = le_of_cross (record { num = negsuc 0; den = 1000; fits = zero-lt-suc 999 }) (record { num = n; den = 281474976710656; fits = zero-lt-suc 281474976710655 }) (omega (arith, ints, h))

low_above : (n : ℤ) → neg_ℚ (decimal 1 3) ≤ℚ ratio n (2 ^ 48) → negsuc 281474976709 ≤ℤ n
unfolding number ratio neg_ℚ
low_above n h =
    let cross = cross_of_le (record { num = negsuc 0; den = 1000; fits = zero-lt-suc 999 }) (record { num = n; den = 281474976710656; fits = zero-lt-suc 281474976710655 }) h in
    by_cross n cross
  where
    by_cross : (n : ℤ) → (negsuc 0 *ℤ pos 281474976710656) ≤ℤ (n *ℤ pos 1000) → negsuc 281474976709 ≤ℤ n
    by_cross n h = omega (arith, ints, h)

-- ---- at least 1
pub one_below : (n : ℤ) → one_ℚ ≤ℚ ratio n (2 ^ 48) → pos 281474976710656 ≤ℤ n
unfolding number ratio
one_below n h =
    by_cross n (cross_of_le (record { num = pos 1; den = 1; fits = zero-lt-suc 0 }) (record { num = n; den = 281474976710656; fits = zero-lt-suc 281474976710655 }) h)
  where
    by_cross : (n : ℤ) → (pos 1 *ℤ pos 281474976710656) ≤ℤ (n *ℤ pos 1) → pos 281474976710656 ≤ℤ n
    by_cross n h = omega (arith, ints, h)

pub one_above : (n : ℤ) → pos 281474976710656 ≤ℤ n → one_ℚ ≤ℚ ratio n (2 ^ 48)
unfolding number ratio
one_above n h = le_of_cross (record { num = pos 1; den = 1; fits = zero-lt-suc 0 }) (record { num = n; den = 281474976710656; fits = zero-lt-suc 281474976710655 }) (omega (arith, ints, h))

-- ---- the eccentricity
below_one : (n : ℤ) → n <ℤ pos 281474976710656 → ratio n (2 ^ 48) <ℚ one_ℚ
below_one n h = by_test (at_least_0 (ratio n (2 ^ 48) -ℚ one_ℚ)) (λ t. absurd (apart (one_below n (record { le = t })))) (λ t. record { lt = t })
  where
    apart : pos 281474976710656 ≤ℤ n → ⊥
    apart k = omega (arith, ints, h, k)

one_not_below : (n : ℤ) → ratio n (2 ^ 48) <ℚ one_ℚ → n <ℤ pos 281474976710656
one_not_below n h = not_least n (λ k. clash (at_least_0 (ratio n (2 ^ 48) -ℚ one_ℚ)) (one_above n k).le h.lt)
  where
    not_least : (n : ℤ) → (pos 281474976710656 ≤ℤ n → ⊥) → n <ℤ pos 281474976710656
    not_least n f = by_lt_z n (pos 281474976710656) (λ k. k) (λ k. absurd (f (omega (arith, ints, k))))

pub guard_of_ends : (v : Iv) → negsuc 281474976709 ≤ℤ v.lo → v.hi <ℤ pos 281474976710656 → IsInsideGuard v
guard_of_ends v f g = record {
  low = record { low = above_low v.lo f; high = below_one v.lo (omega (arith, ints, v.ordered, g)) };
  high = record { low = above_low v.hi (omega (arith, ints, v.ordered, f)); high = below_one v.hi g };
}

pub ends_of_guard : (v : Iv) → IsInsideGuard v → (negsuc 281474976709 ≤ℤ v.lo) × (v.hi <ℤ pos 281474976710656)
ends_of_guard v h = (low_above v.lo h.low.low, one_not_below v.hi h.high.high)

-- ---- what bounds inside the guard hold is guarded
units_guarded : (x : ℚ) → of_int (negsuc 281474976709) ≤ℚ in_units x → in_units x ≤ℚ of_int (pos 281474976710655) → IsEccentricityGuarded x
units_guarded x f g =
    let low = rw (of_int_is (negsuc 281474976709)) at f in
    let high = rw (of_int_is (pos 281474976710655)) at g in
    record {
      low = le_by (x ∷ []) (known 1 281474976710656 ⊗ gap low ⊕ known 656 281474976710656000) (search reads depth 90) tt;
      high = lt_by (x ∷ []) (positive_sum (positive_known 0 281474976710656) (known 1 281474976710656 ⊗ gap high)) (search reads depth 90) tt;
    }

pub held_guarded : (v : Iv) (x : ℚ) → IsInsideGuard v → Holds v x → IsEccentricityGuarded x
held_guarded v x inside held =
    let ends = ends_of_guard v inside in
    units_guarded x
    (le_trans (of_int_le ends.0) (held.low (omega (arith, ints, ends.0))))
    (le_trans (held.high (omega (arith, ints, ends.1))) (of_int_le (omega (arith, ints, ends.1))))

-- what bounds of at least 1 hold is at least 1
units_at_least_1 : (x : ℚ) → of_int (pos 281474976710656) ≤ℚ in_units x → one_ℚ ≤ℚ x
units_at_least_1 x f =
    let low = rw (of_int_is (pos 281474976710656)) at f in
    le_by (x ∷ []) (known 1 281474976710656 ⊗ gap low) (search reads depth 90) tt

pub held_at_least_1 : (v : Iv) (x : ℚ) → AreAtLeast1 v → Holds v x → one_ℚ ≤ℚ x
held_at_least_1 v x inside held =
    let end = one_below v.lo inside in
    units_at_least_1 x (le_trans (of_int_le end) (held.low (omega (arith, ints, end))))
