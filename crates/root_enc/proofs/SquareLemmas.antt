-- What the ends of square roots hold, and how near they are.
use Rattle.std.proofs.Common.{◌≡◌, arith, sym, [], ◌∷◌, ◌^◌, ℤ, pos, ◌≤ℤ◌, ◌<ℤ◌, ◌+ℤ◌, ◌-ℤ◌, ◌*ℤ◌}
use Rattle.std.proofs.lemmas.Int.{ints, by_lt_z}
use Rattle.algebra.proofs.IntRing.{ring_ℤ, reads_ℤ}
use Rattle.exact.specs.Rational.{ℚ, of_int, ratio, ◌+ℚ◌, ◌*ℚ◌, ◌≤ℚ◌}
use Rattle.exact.proofs.RationalRing.{reads}
use Rattle.exact.proofs.Order.{gap, known, le_by, le_trans, not_negative, ◌⊕◌, ◌⊗◌}
use Rattle.exact.proofs.Integers.{of_int_add, of_int_mul, of_int_is, of_int_le}
use Rattle.sgp4_model.specs.Root.{IsSqrt}
use Rattle.sgp4_model.proofs.Powers.{le_of_squares}
use Rattle.fixed_iv.specs.Ends.{no_low, no_high, in_units}
use Rattle.fixed_iv.specs.Holds.{IsBounded}
use Rattle.fixed_iv.specs.declared.iv.Iv.{Iv}
use Rattle.root_enc.specs.Ends.{IsLowSquareRoot, IsHighSquareRoot}
use Rattle.root_enc.proofs.WholeLemmas.{natural, not_below, same, square_rises}
use Rattle.root_enc.specs.Roots.{AreNearSquareRoots, HoldSquareRoots}

-- ---- the ends are in order
pub square_ends_ordered : (lo hi l h : ℤ) → lo ≤ℤ hi → IsLowSquareRoot lo l → l ≤ℤ pos 72057594037927936 → IsHighSquareRoot hi h → l ≤ℤ h
square_ends_ordered lo hi l h o low size high =
    by_lt_z hi no_high
    (λ b.
    by_lt_z h l
    (λ c. absurd (omega (arith, ints, low.under (omega (arith, ints, high.sign, c)), high.over b, square_rises h l (omega (arith, ints, high.sign)) (omega (arith, ints, c)))))
    (λ c. c))
    (λ b. omega (arith, ints, high.unbounded b, size))

-- ---- a root and a whole number of units, by squares
pub square_root_at_least : (end r : ℤ) (number root : ℚ) → (r *ℤ r) ≤ℤ (end *ℤ pos 281474976710656 -ℤ pos 68719476736) → of_int end ≤ℚ in_units number → IsSqrt number root →
    of_int r ≤ℚ in_units root
square_root_at_least end r number root h under is =
    le_of_squares (not_negative is.root ⊗ known 281474976710656 1)
    (le_by (of_int r ∷ of_int end ∷ number ∷ root ∷ [])
    (gap squares ⊕ known 281474976710656 1 ⊗ gap under ⊕ known (2 ^ 96) 1 ⊗ gap is.square.below)
    (search reads depth 90) tt)
  where
    squares : of_int r *ℚ of_int r +ℚ ratio (pos 68719476736) 1 ≤ℚ of_int end *ℚ ratio (pos 281474976710656) 1
    squares =
        rw (← of_int_is (pos 68719476736), ← of_int_is (pos 281474976710656), ← of_int_mul r r, ← of_int_mul end (pos 281474976710656), ← of_int_add)
        (of_int_le (omega (arith, ints, h)))

pub square_root_at_most : (end r : ℤ) (number root : ℚ) → pos 0 ≤ℤ r → (end *ℤ pos 281474976710656 +ℤ pos 68719476736) ≤ℤ (r *ℤ r) → in_units number ≤ℚ of_int end → IsSqrt number root →
    in_units root ≤ℚ of_int r
square_root_at_most end r number root sign h over is =
    le_of_squares (natural sign)
    (le_by (of_int r ∷ of_int end ∷ number ∷ root ∷ [])
    (gap squares ⊕ known 281474976710656 1 ⊗ gap over ⊕ known (2 ^ 96) 1 ⊗ gap is.square.above)
    (search reads depth 90) tt)
  where
    squares : of_int end *ℚ ratio (pos 281474976710656) 1 +ℚ ratio (pos 68719476736) 1 ≤ℚ of_int r *ℚ of_int r
    squares =
        rw (← of_int_is (pos 68719476736), ← of_int_is (pos 281474976710656), ← of_int_mul r r, ← of_int_mul end (pos 281474976710656), ← of_int_add)
        (of_int_le h)

-- ---- containment
pub hold_square_roots : (x roots : Iv) → IsLowSquareRoot x.lo roots.lo → IsHighSquareRoot x.hi roots.hi → HoldSquareRoots x roots
hold_square_roots x roots low high number root h is = record { low = λ _. by_lt_z (pos 0) roots.lo above (λ b. le_trans (of_int_le b) (not_below is.root)); high = below }
  where
    above : pos 0 <ℤ roots.lo → of_int roots.lo ≤ℚ in_units root
    above b =
        let inner : no_low <ℤ x.lo = by_lt_z no_low x.lo (λ l. l) (λ l. absurd (omega (arith, ints, low.none (omega (arith, ints, l)), b))) in
        square_root_at_least x.lo roots.lo number root (low.under b) (h.low inner) is

    below : roots.hi <ℤ no_high → in_units root ≤ℚ of_int roots.hi
    below b =
        let bound : x.hi <ℤ no_high = by_lt_z x.hi no_high (λ l. l) (λ l. absurd (omega (arith, ints, high.unbounded l, b))) in
        square_root_at_most x.hi roots.hi number root (omega (arith, ints, high.sign)) (omega (arith, ints, high.over bound)) (h.high bound) is

-- ---- nearness
two_more : (l : ℤ) → (l +ℤ pos 2) *ℤ (l +ℤ pos 2) ≡ (l +ℤ pos 1) *ℤ (l +ℤ pos 1) +ℤ (pos 2 *ℤ l +ℤ pos 3)
two_more l = ring_ℤ (l ∷ []) (search reads_ℤ depth 90) tt

two_less : (h : ℤ) → (h -ℤ pos 2) *ℤ (h -ℤ pos 2) ≡ (h -ℤ pos 1) *ℤ (h -ℤ pos 1) -ℤ (pos 2 *ℤ h -ℤ pos 3)
two_less h = ring_ℤ (h ∷ []) (search reads_ℤ depth 90) tt

pub near_square_roots : (x roots : Iv) → IsLowSquareRoot x.lo roots.lo → IsHighSquareRoot x.hi roots.hi → IsBounded x → pos 68719476736 ≤ℤ x.lo → AreNearSquareRoots x roots
near_square_roots x roots low high b size = record {
  bounded = record { low = omega (arith, ints, low.sign); high = high.bounded b.high };
  low_within = λ number root e is. square_root_at_most x.lo (roots.lo +ℤ pos 2) number root (omega (arith, ints, low.sign)) past (same e) is;
  low_sign = low.sign;
  low_square = past;
  high_within = λ number root e is. square_root_at_least x.hi (roots.hi -ℤ pos 2) number root before (same (sym e)) is;
  high_sign = omega (arith, ints, large_high);
  high_square = before;
}
  where
    large_low : pos 137438953472 ≤ℤ roots.lo
    large_low =
        by_lt_z roots.lo (pos 137438953472)
        (λ l. absurd (omega (arith, ints, low.over, size, square_rises (roots.lo +ℤ pos 1) (pos 137438953472) (omega (arith, ints, low.sign)) (omega (arith, ints, l)))))
        (λ l. l)

    large_high : pos 137438953472 ≤ℤ roots.hi
    large_high =
        by_lt_z roots.hi (pos 137438953472)
        (λ l. absurd (omega (arith, ints, high.over b.high, size, x.ordered, square_rises roots.hi (pos 137438953472) (omega (arith, ints, high.sign)) (omega (arith, ints, l)))))
        (λ l. l)

    past : (x.lo *ℤ pos 281474976710656 +ℤ pos 68719476736) ≤ℤ ((roots.lo +ℤ pos 2) *ℤ (roots.lo +ℤ pos 2))
    past = rw (two_more roots.lo) (omega (arith, ints, low.over, large_low))

    before : ((roots.hi -ℤ pos 2) *ℤ (roots.hi -ℤ pos 2)) ≤ℤ (x.hi *ℤ pos 281474976710656 -ℤ pos 68719476736)
    before = rw (two_less roots.hi) (omega (arith, ints, high.under b.high, large_high))
