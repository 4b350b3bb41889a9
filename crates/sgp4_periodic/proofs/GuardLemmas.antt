-- The guards, by the lower end of the bounds.
use Rattle.std.proofs.Common.{arith, ℤ, pos, ◌≤ℤ◌, ◌*ℤ◌, ◌^◌}
use Rattle.std.proofs.lemmas.Int.{ints, by_lt_z}
use native.Mathlib.Nat.{zero-lt-suc}
use Rattle.exact.specs.Rational.{ratio, number, zero_ℚ, ◌≤ℚ◌, ◌<ℚ◌, ◌-ℚ◌, at_least_0}
use Rattle.exact.proofs.Fractions.{le_of_cross, cross_of_le}
use Rattle.exact.proofs.Tests.{by_test, clash}
use Rattle.sgp4_model.specs.Position.{least_distance}

-- ---- at least 1.02: of 2^48 units that are 287104476244869.1..
pub distant_above : (n : ℤ) → pos 287104476244870 ≤ℤ n → least_distance ≤ℚ ratio n (2 ^ 48)
unfolding number ratio
distant_above n h = le_of_cross (record { num = pos 102; den = 100; fits = zero-lt-suc 99 }) (record { num = n; den = 281474976710656; fits = zero-lt-suc 281474976710655 }) (omega (arith, ints, h))

pub distant_below : (n : ℤ) → least_distance ≤ℚ ratio n (2 ^ 48) → pos 287104476244870 ≤ℤ n
unfolding number ratio
distant_below n h =
    by_cross n (cross_of_le (record { num = pos 102; den = 100; fits = zero-lt-suc 99 }) (record { num = n; den = 281474976710656; fits = zero-lt-suc 281474976710655 }) h)
  where
    by_cross : (n : ℤ) → (pos 102 *ℤ pos 281474976710656) ≤ℤ (n *ℤ pos 100) → pos 287104476244870 ≤ℤ n
    by_cross n h = omega (arith, ints, h)

-- ---- above 0
zero_above : (n : ℤ) → n ≤ℤ pos 0 → ratio n (2 ^ 48) ≤ℚ zero_ℚ
unfolding number ratio
zero_above n h = le_of_cross (record { num = n; den = 281474976710656; fits = zero-lt-suc 281474976710655 }) (record { num = pos 0; den = 1; fits = zero-lt-suc 0 }) (omega (arith, ints, h))

zero_not_above : (n : ℤ) → ratio n (2 ^ 48) ≤ℚ zero_ℚ → n ≤ℤ pos 0
unfolding number ratio
zero_not_above n h =
    by_cross n (cross_of_le (record { num = n; den = 281474976710656; fits = zero-lt-suc 281474976710655 }) (record { num = pos 0; den = 1; fits = zero-lt-suc 0 }) h)
  where
    by_cross : (n : ℤ) → (n *ℤ pos 1) ≤ℤ (pos 0 *ℤ pos 281474976710656) → n ≤ℤ pos 0
    by_cross n h = omega (arith, ints, h)

pub above_0 : (n : ℤ) → pos 1 ≤ℤ n → zero_ℚ <ℚ ratio n (2 ^ 48)
above_0 n h = by_test (at_least_0 (zero_ℚ -ℚ ratio n (2 ^ 48))) (λ t. absurd (apart (zero_not_above n (record { le = t })))) (λ t. record { lt = t })
  where
    apart : n ≤ℤ pos 0 → ⊥
    apart k = omega (arith, ints, h, k)

pub not_below_1 : (n : ℤ) → zero_ℚ <ℚ ratio n (2 ^ 48) → pos 1 ≤ℤ n
not_below_1 n h = not_least n (λ k. clash (at_least_0 (zero_ℚ -ℚ ratio n (2 ^ 48))) (zero_above n k).le h.lt)
  where
    not_least : (n : ℤ) → (n ≤ℤ pos 0 → ⊥) → pos 1 ≤ℤ n
    not_least n f = by_lt_z (pos 0) n (λ k. omega (arith, ints, k)) (λ k. absurd (f k))
