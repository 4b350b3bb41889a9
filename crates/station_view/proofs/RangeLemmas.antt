-- Bounds above 1/4096, by their lower end.
use Rattle.std.proofs.Common.{arith, ℤ, pos, ◌≤ℤ◌, ◌<ℤ◌, ◌*ℤ◌, ◌^◌, T, not, Bool, true, false}
use Rattle.std.proofs.lemmas.Int.{ints, by_lt_z}
use native.Mathlib.Nat.{zero-lt-suc}
use Rattle.exact.specs.Rational.{ratio, number, ◌≤ℚ◌, ◌<ℚ◌, ◌-ℚ◌, at_least_0}
use Rattle.exact.proofs.Fractions.{le_of_cross, cross_of_le}
use Rattle.exact.proofs.Tests.{by_test, clash}

least_above : (n : ℤ) → n ≤ℤ pos 68719476736 → ratio n (2 ^ 48) ≤ℚ ratio (pos 1) 4096
unfolding number ratio
least_above n h = le_of_cross (record { num = n; den = 281474976710656; fits = zero-lt-suc 281474976710655 }) (record { num = pos 1; den = 4096; fits = zero-lt-suc 4095 }) (omega (arith, ints, h))

not_above : (n : ℤ) → ratio n (2 ^ 48) ≤ℚ ratio (pos 1) 4096 → n ≤ℤ pos 68719476736
unfolding number ratio
not_above n h =
    by_cross n (cross_of_le (record { num = n; den = 281474976710656; fits = zero-lt-suc 281474976710655 }) (record { num = pos 1; den = 4096; fits = zero-lt-suc 4095 }) h)
  where
    by_cross : (n : ℤ) → (n *ℤ pos 4096) ≤ℤ (pos 1 *ℤ pos 281474976710656) → n ≤ℤ pos 68719476736
    by_cross n h = omega (arith, ints, h)

pub above_4096th : (n : ℤ) → pos 68719476736 <ℤ n → ratio (pos 1) 4096 <ℚ ratio n (2 ^ 48)
above_4096th n h = by_test (at_least_0 (ratio (pos 1) 4096 -ℚ ratio n (2 ^ 48))) (λ t. absurd (apart (not_above n (record { le = t })))) (λ t. record { lt = t })
  where
    apart : n ≤ℤ pos 68719476736 → ⊥
    apart k = omega (arith, ints, h, k)

pub end_above : (n : ℤ) → ratio (pos 1) 4096 <ℚ ratio n (2 ^ 48) → pos 68719476736 <ℤ n
end_above n h = by_lt_z (pos 68719476736) n (λ k. k) (λ k. absurd (clash (at_least_0 (ratio (pos 1) 4096 -ℚ ratio n (2 ^ 48))) (least_above n k).le h.lt))
