-- What the ends of cube roots of squares hold, and how near they are.
use Rattle.std.proofs.Common.{◌≡◌, arith, sym, [], ◌∷◌, ◌^◌, ℤ, pos, ◌≤ℤ◌, ◌<ℤ◌, ◌+ℤ◌, ◌-ℤ◌, ◌*ℤ◌}
use Rattle.std.proofs.lemmas.Int.{ints, by_lt_z}
use Rattle.algebra.proofs.IntRing.{ring_ℤ, reads_ℤ}
use Rattle.exact.specs.Rational.{ℚ, of_int, ratio, ◌+ℚ◌, ◌*ℚ◌, ◌≤ℚ◌}
use Rattle.exact.proofs.RationalRing.{reads}
use Rattle.exact.proofs.Order.{gap, known, le_by, le_trans, not_negative, ◌⊕◌, ◌⊗◌}
use Rattle.exact.proofs.Strict.{le_of_lt}
use Rattle.exact.proofs.Integers.{of_int_add, of_int_mul, of_int_is, of_int_le}
use Rattle.sgp4_model.specs.Root.{IsCbrt2}
use Rattle.sgp4_model.proofs.Powers.{le_of_cubes}
use Rattle.fixed_iv.specs.Ends.{no_high, in_units}
use Rattle.fixed_iv.specs.Holds.{IsBounded}
use Rattle.fixed_iv.specs.declared.iv.Iv.{Iv}
use Rattle.root_enc.specs.Ends.{IsLowCubeRoot, IsHighCubeRoot}
use Rattle.root_enc.specs.Roots.{AreNearCubeRoots, HoldCubeRoots}
use Rattle.root_enc.proofs.WholeLemmas.{natural, not_below, same, product_rises, square_rises, cube_rises}

-- ---- the ends are in order
pub cube_ends_ordered : (lo hi l h : ℤ) → lo ≤ℤ hi → IsLowCubeRoot lo l → l ≤ℤ pos 576460752303423488 → IsHighCubeRoot hi h → l ≤ℤ h
cube_ends_ordered lo hi l h o low size high =
    by_lt_z hi no_high
    (λ b. by_lt_z h l (λ c. by_lt_z (pos 0) lo (λ p. absurd (apart b c p)) (λ p. absurd (omega (arith, ints, low.none p, high.sign, c)))) (λ c. c))
    (λ b. omega (arith, ints, high.unbounded b, size))
  where
    apart : hi <ℤ no_high → h <ℤ l → pos 0 <ℤ lo → ⊥
    apart b c p =
        omega (
          arith,
          ints,
          low.under (omega (arith, ints, high.sign, c)),
          high.over b,
          cube_rises h l (omega (arith, ints, high.sign)) (omega (arith, ints, c)),
          square_rises lo hi (omega (arith, ints, p)) o,
        )

-- ---- a root and a whole number of units, by cubes
pub cube_root_at_least : (end r : ℤ) (number root : ℚ) → pos 0 ≤ℤ end → (r *ℤ r *ℤ r) ≤ℤ (end *ℤ end *ℤ pos 281474976710656 -ℤ pos 19342813113834066795298816) → of_int end ≤ℚ in_units number →
    IsCbrt2 number root → of_int r ≤ℚ in_units root
cube_root_at_least end r number root sign h under is =
    le_of_cubes (not_negative (le_of_lt is.root) ⊗ known 281474976710656 1)
    (le_by (of_int r ∷ of_int end ∷ number ∷ root ∷ [])
    (gap cubes ⊕ known 281474976710656 1 ⊗ gap under ⊗ (gap under ⊕ known 2 1 ⊗ natural sign) ⊕ known (2 ^ 144) 1 ⊗ gap is.cube.below)
    (search reads depth 90) tt)
  where
    cubes : of_int r *ℚ of_int r *ℚ of_int r +ℚ ratio (pos 19342813113834066795298816) 1 ≤ℚ of_int end *ℚ of_int end *ℚ ratio (pos 281474976710656) 1
    cubes =
        rw (← of_int_is (pos 19342813113834066795298816), ← of_int_is (pos 281474976710656), ← of_int_mul r r, ← of_int_mul (r *ℤ r) r, ← of_int_mul end end, ← of_int_mul (end *ℤ end) (pos 281474976710656), ← of_int_add)
        (of_int_le (omega (arith, ints, h)))

pub cube_root_at_most : (end r : ℤ) (number root : ℚ) → pos 0 ≤ℤ r → (end *ℤ end *ℤ pos 281474976710656 +ℤ pos 19342813113834066795298816) ≤ℤ (r *ℤ r *ℤ r) → in_units number ≤ℚ of_int end →
    IsCbrt2 number root → in_units root ≤ℚ of_int r
cube_root_at_most end r number root sign h over is =
    le_of_cubes (natural sign)
    (le_by (of_int r ∷ of_int end ∷ number ∷ root ∷ [])
    (gap cubes ⊕ known 281474976710656 1 ⊗ gap over ⊗ (gap over ⊕ known 2 1 ⊗ (not_negative (le_of_lt is.argument) ⊗ known 281474976710656 1)) ⊕ known (2 ^ 144) 1 ⊗ gap is.cube.above)
    (search reads depth 90) tt)
  where
    cubes : of_int end *ℚ of_int end *ℚ ratio (pos 281474976710656) 1 +ℚ ratio (pos 19342813113834066795298816) 1 ≤ℚ of_int r *ℚ of_int r *ℚ of_int r
    cubes =
        rw (← of_int_is (pos 19342813113834066795298816), ← of_int_is (pos 281474976710656), ← of_int_mul r r, ← of_int_mul (r *ℤ r) r, ← of_int_mul end end, ← of_int_mul (end *ℤ end) (pos 281474976710656), ← of_int_add)
        (of_int_le h)

-- ---- containment
pub hold_cube_roots : (x roots : Iv) → IsLowCubeRoot x.lo roots.lo → IsHighCubeRoot x.hi roots.hi → HoldCubeRoots x roots
hold_cube_roots x roots low high number root h is = record { low = λ _. by_lt_z (pos 0) roots.lo above (λ b. le_trans (of_int_le b) (not_below (le_of_lt is.root))); high = below }
  where
    above : pos 0 <ℤ roots.lo → of_int roots.lo ≤ℚ in_units root
    above b =
        let positive : pos 0 <ℤ x.lo = by_lt_z (pos 0) x.lo (λ l. l) (λ l. absurd (omega (arith, ints, low.none l, b))) in
        cube_root_at_least x.lo roots.lo number root (omega (arith, ints, positive)) (low.under b) (h.low (omega (arith, ints, positive))) is

    below : roots.hi <ℤ no_high → in_units root ≤ℚ of_int roots.hi
    below b =
        let bound : x.hi <ℤ no_high = by_lt_z x.hi no_high (λ l. l) (λ l. absurd (omega (arith, ints, high.unbounded l, b))) in
        cube_root_at_most x.hi roots.hi number root (omega (arith, ints, high.sign)) (omega (arith, ints, high.over bound)) (h.high bound) is

-- ---- nearness
two_more : (l : ℤ) → (l +ℤ pos 2) *ℤ (l +ℤ pos 2) *ℤ (l +ℤ pos 2) ≡ (l +ℤ pos 1) *ℤ (l +ℤ pos 1) *ℤ (l +ℤ pos 1) +ℤ (pos 3 *ℤ (l *ℤ l) +ℤ pos 9 *ℤ l +ℤ pos 7)
two_more l = ring_ℤ (l ∷ []) (search reads_ℤ depth 90) tt

two_less : (h : ℤ) → (h -ℤ pos 2) *ℤ (h -ℤ pos 2) *ℤ (h -ℤ pos 2) ≡ (h -ℤ pos 1) *ℤ (h -ℤ pos 1) *ℤ (h -ℤ pos 1) -ℤ (pos 3 *ℤ (h *ℤ h) -ℤ pos 9 *ℤ h +ℤ pos 7)
two_less h = ring_ℤ (h ∷ []) (search reads_ℤ depth 90) tt

-- 2^43, whose square times 3 is more than twice the tolerance
abbrev large : ℤ
large = pos 8796093022208

pub near_cube_roots : (x roots : Iv) → IsLowCubeRoot x.lo roots.lo → IsHighCubeRoot x.hi roots.hi → IsBounded x → pos 4398046511104 ≤ℤ x.lo → AreNearCubeRoots x roots
near_cube_roots x roots low high b size = record {
  bounded = record { low = omega (arith, ints, low.sign); high = high.bounded b.high };
  low_within = λ number root e is. cube_root_at_most x.lo (roots.lo +ℤ pos 2) number root (omega (arith, ints, low.sign)) past (same e) is;
  low_sign = low.sign;
  low_cube = past;
  high_within = λ number root e is. cube_root_at_least x.hi (roots.hi -ℤ pos 2) number root (omega (arith, ints, size, x.ordered)) before (same (sym e)) is;
  high_sign = omega (arith, ints, large_high);
  high_cube = before;
}
  where
    positive : pos 0 <ℤ x.lo
    positive = omega (arith, ints, size)

    low_square : pos 19342813113834066795298816 ≤ℤ (x.lo *ℤ x.lo)
    low_square = omega (arith, ints, square_rises (pos 4398046511104) x.lo (omega (arith, ints)) size)

    high_square : pos 19342813113834066795298816 ≤ℤ (x.hi *ℤ x.hi)
    high_square = omega (arith, ints, square_rises (pos 4398046511104) x.hi (omega (arith, ints)) (omega (arith, ints, size, x.ordered)))

    large_low : large ≤ℤ roots.lo
    large_low =
        by_lt_z roots.lo large
        (λ l. absurd (omega (arith, ints, low.over positive, low_square, cube_rises (roots.lo +ℤ pos 1) large (omega (arith, ints, low.sign)) (omega (arith, ints, l)))))
        (λ l. l)

    large_high : large ≤ℤ roots.hi
    large_high =
        by_lt_z roots.hi large
        (λ l. absurd (omega (arith, ints, high.over b.high, high_square, cube_rises roots.hi large (omega (arith, ints, high.sign)) (omega (arith, ints, l)))))
        (λ l. l)

    past : (x.lo *ℤ x.lo *ℤ pos 281474976710656 +ℤ pos 19342813113834066795298816) ≤ℤ ((roots.lo +ℤ pos 2) *ℤ (roots.lo +ℤ pos 2) *ℤ (roots.lo +ℤ pos 2))
    past = rw (two_more roots.lo) (omega (arith, ints, low.over positive, large_low, square_rises large roots.lo (omega (arith, ints)) large_low))

    before : ((roots.hi -ℤ pos 2) *ℤ (roots.hi -ℤ pos 2) *ℤ (roots.hi -ℤ pos 2)) ≤ℤ (x.hi *ℤ x.hi *ℤ pos 281474976710656 -ℤ pos 19342813113834066795298816)
    before = rw (two_less roots.hi) (omega (arith, ints, high.under b.high, large_high, product_rises large roots.hi (omega (arith, ints)) large_high))
