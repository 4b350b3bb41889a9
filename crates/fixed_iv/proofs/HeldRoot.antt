-- Square roots, and cube roots of squares: what numerals say of the argument, they say of the root.
use Rattle.std.proofs.Common.{◌≡◌, arith, ap, ◌∙◌, subst, refl, [], ◌∷◌, ℕ, zero, suc, leb, ltb, le_refl as nat_refl, ◌+◌, ◌-◌, ◌*◌, ◌/◌, ◌^◌, ◌<◌, ◌≤◌, T, Bool, ℤ, pos, negsuc, ◌≤ℤ◌, ◌+ℤ◌, ◌*ℤ◌, unsigned_abs}
use Rattle.std.proofs.Math.Facts.{leb_yes}
use Rattle.std.proofs.Math.Nat.{mul-le-mul}
use Rattle.std.proofs.lemmas.Int.{ints, by_lt_z}
use Rattle.std.proofs.lemmas.Nat.{le-div}
use Rattle.exact.specs.Rational.{ℚ, ◌+ℚ◌, ◌*ℚ◌, abs_ℚ, of_int, ratio, zero_ℚ, ◌≤ℚ◌}
use Rattle.exact.specs.Interval.{Coef, number_of, coef_add, coef_mul, Interval, Inside, coef_le}
use Rattle.exact.proofs.RationalRing.{number_sum, number_product, reads}
use Rattle.exact.proofs.Order.{NonNeg, gap, known, le_by, le_trans, not_negative, ◌⊕◌, ◌⊗◌}
use Rattle.exact.proofs.Bounds.{abs_le}
use Rattle.exact.proofs.Strict.{le_of_lt}
use Rattle.exact.proofs.Integers.{of_int_le, of_int_is}
use Rattle.exact.proofs.Intervals.{coef_le_holds}
use Rattle.sgp4_model.specs.Angle.{part}
use Rattle.sgp4_model.specs.Root.{IsCbrt2, IsSqrt}
use Rattle.sgp4_model.proofs.Powers.{le_of_cubes, le_of_squares}
use Rattle.fixed_iv.specs.Extent.{AreSmall, Extent}
use Rattle.fixed_iv.specs.Holds.{Holds, IsBounded}
use Rattle.fixed_iv.specs.Narrow.{IsCbrt2Of, IsNarrowCbrt2, IsNarrowRoot, IsSqrtOf}
use Rattle.fixed_iv.specs.Place.{Place}
use Rattle.fixed_iv.specs.Reach.{IsHeld, IsKnown, Reach, above_0, lowest}
use Rattle.fixed_iv.specs.ReachRoots.{are_cube_roots, are_roots, cube, cube_root_range, cube_rooted, is_least, parts, root_least, root_range, rooted, tolerance}
use Rattle.fixed_iv.specs.declared.iv.Iv.{Iv}
use Rattle.fixed_iv.proofs.Held.{Contained, by_rule}
use Rattle.fixed_iv.proofs.OuterLemmas.{both, ends_low, number_ratio}

-- ---- roots of numbers of bounded intervals are small
below_limit : {v : Iv} {x : ℚ} → IsBounded v → Holds v x → x ≤ℚ ratio (pos 32768) 1
below_limit {v} {x} b h =
    le_by (x ∷ []) (known 1 281474976710656 ⊗ gap (le_trans (h.high b.high) limit)) (search reads depth 90) tt
  where
    limit : of_int v.hi ≤ℚ ratio (pos 9223372036854775808) 1
    limit = rw (← of_int_is (pos 9223372036854775808)) (of_int_le (omega (arith, ints, v.high_end.most)))

small_root : {r : ℚ} → zero_ℚ ≤ℚ r → r ≤ℚ ratio (pos 32000) 1 → abs_ℚ r ≤ℚ ratio (pos 32000) 1
small_root {r} n h = abs_le (le_by (r ∷ []) (not_negative n ⊕ known 32000 1) (search reads depth 90) tt) h

small_square_root : {v : Iv} → IsBounded v → AreSmall (IsSqrtOf v)
small_square_root b z w =
    small_root w.is.root
    (le_of_squares (known 32000 1)
    (le_by (w.number ∷ z ∷ []) (gap w.is.square.above ⊕ gap (below_limit b w.of_number) ⊕ known 1023967231 1 ⊕ known (2 ^ 60 - 1) (2 ^ 60)) (search reads depth 90) tt))

small_cube_root : {v : Iv} → IsBounded v → AreSmall (IsCbrt2Of v)
small_cube_root b z w =
    small_root (le_of_lt w.is.root)
    (le_of_cubes (known 32000 1)
    (le_by (w.number ∷ z ∷ [])
    (gap w.is.cube.above ⊕ gap (below_limit b w.of_number) ⊗ (gap (below_limit b w.of_number) ⊕ known 2 1 ⊗ not_negative (le_of_lt w.is.argument)) ⊕ known 32766926258175 1 ⊕ known (2 ^ 60 - 1) (2 ^ 60))
    (search reads depth 90) tt))

-- ---- ranges
parts_sign : (n : ℕ) → NonNeg (number_of (parts n))
parts_sign n = rw (number_ratio (parts n)) (known n (2 ^ 64))

tolerance_is : number_of tolerance ≡ part 60
tolerance_is = number_ratio tolerance

-- what a passed test says of sums, squares and cubes
sum_le : (a b c : Coef) → T (coef_le (coef_add a b) c) → number_of a +ℚ number_of b ≤ℚ number_of c
sum_le a b c h = subst (λ t. t ≤ℚ number_of c) (number_sum a b) (coef_le_holds (coef_add a b) c h)

square_is : (c : Coef) → number_of (coef_mul c c) ≡ number_of c *ℚ number_of c
square_is c = number_product c c

cube_is : (c : Coef) → number_of (cube c) ≡ number_of c *ℚ number_of c *ℚ number_of c
cube_is c = number_product (coef_mul c c) c ∙ ap (λ t. t *ℚ number_of c) (square_is c)

root_inside : (i : Interval) (l h : ℕ) (x r : ℚ) → T (are_roots i (record { low = parts l; high = parts h })) → IsSqrt x r → Inside i x → Inside (record { low = parts l; high = parts h }) r
root_inside i l h x r t s k =
    let t0 = both _ _ t in
    let low : number_of (parts l) *ℚ number_of (parts l) +ℚ part 60 ≤ℚ number_of i.low =
    subst (λ t. t +ℚ part 60 ≤ℚ number_of i.low) (square_is (parts l)) (subst (λ t. number_of (coef_mul (parts l) (parts l)) +ℚ t ≤ℚ number_of i.low) tolerance_is (sum_le (coef_mul (parts l) (parts l)) tolerance i.low t0.0)) in
    let high : number_of i.high +ℚ part 60 ≤ℚ number_of (parts h) *ℚ number_of (parts h) =
    subst (λ t. number_of i.high +ℚ part 60 ≤ℚ t) (square_is (parts h)) (subst (λ t. number_of i.high +ℚ t ≤ℚ number_of (coef_mul (parts h) (parts h))) tolerance_is (sum_le i.high tolerance (coef_mul (parts h) (parts h)) t0.1)) in
    record {
      low = le_of_squares (not_negative s.root) (le_by (number_of (parts l) ∷ number_of i.low ∷ x ∷ r ∷ []) (gap low ⊕ gap k.low ⊕ gap s.square.below) (search reads depth 90) tt);
      high = le_of_squares (parts_sign h) (le_by (number_of (parts h) ∷ number_of i.high ∷ x ∷ r ∷ []) (gap high ⊕ gap k.high ⊕ gap s.square.above) (search reads depth 90) tt);
    }

cube_inside : (i : Interval) (l h : ℕ) (x r : ℚ) → T (coef_le (record { num = pos 0; under = 0 }) i.low) → T (are_cube_roots i (record { low = parts l; high = parts h })) →
    IsCbrt2 x r → Inside i x → Inside (record { low = parts l; high = parts h }) r
cube_inside i l h x r o t s k =
    let t0 = both _ _ t in
    let low : number_of (parts l) *ℚ number_of (parts l) *ℚ number_of (parts l) +ℚ part 60 ≤ℚ number_of i.low *ℚ number_of i.low =
    subst (λ t. t +ℚ part 60 ≤ℚ number_of i.low *ℚ number_of i.low) (cube_is (parts l))
    (subst (λ t. number_of (cube (parts l)) +ℚ part 60 ≤ℚ t) (square_is i.low)
    (subst (λ t. number_of (cube (parts l)) +ℚ t ≤ℚ number_of (coef_mul i.low i.low)) tolerance_is (sum_le (cube (parts l)) tolerance (coef_mul i.low i.low) t0.0))) in
    let high : number_of i.high *ℚ number_of i.high +ℚ part 60 ≤ℚ number_of (parts h) *ℚ number_of (parts h) *ℚ number_of (parts h) =
    subst (λ t. number_of i.high *ℚ number_of i.high +ℚ part 60 ≤ℚ t) (cube_is (parts h))
    (subst (λ t. t +ℚ part 60 ≤ℚ number_of (cube (parts h))) (square_is i.high)
    (subst (λ t. number_of (coef_mul i.high i.high) +ℚ t ≤ℚ number_of (cube (parts h))) tolerance_is (sum_le (coef_mul i.high i.high) tolerance (cube (parts h)) t0.1))) in
    let sign : NonNeg (number_of i.low) = not_negative (subst (λ t. t ≤ℚ number_of i.low) (number_ratio (record { num = pos 0; under = 0 })) (coef_le_holds (record { num = pos 0; under = 0 }) i.low o)) in
    let positive = not_negative (le_of_lt s.argument) in
    record {
      low = le_of_cubes (not_negative (le_of_lt s.root))
          (le_by (number_of (parts l) ∷ number_of i.low ∷ x ∷ r ∷ []) (gap low ⊕ gap k.low ⊗ (sign ⊕ positive) ⊕ gap s.cube.below) (search reads depth 90) tt);
      high = le_of_cubes (parts_sign h)
          (le_by (number_of (parts h) ∷ number_of i.high ∷ x ∷ r ∷ []) (gap high ⊕ gap k.high ⊗ (gap k.high ⊕ known 2 1 ⊗ positive) ⊕ gap s.cube.above) (search reads depth 90) tt);
    }

-- ---- spreads
above_is : (z : ℤ) (n : ℕ) → n ≤ above_0 z → 0 < n → pos n ≤ℤ z
above_is (pos z) n h p = omega (arith, ints, h)
above_is (negsuc z) n h p = absurd (omega (arith, h, p))

positive_test : (d : ℕ) → T (ltb 0 d) → 0 < d
positive_test zero t = absurd t
positive_test (suc d) t = omega arith

-- a number at most so many units and six
within_root : (n s S m low : ℕ) → 0 < m → m ≤ low → s ≤ S → n * (2 * low) ≤ s * 2 ^ 48 + 6 * (2 * low) → n ≤ S * 2 ^ 48 / (2 * m) + 6
within_root zero s S m low p q r h = omega arith
within_root (suc zero) s S m low p q r h = omega arith
within_root (suc (suc zero)) s S m low p q r h = omega arith
within_root (suc (suc (suc zero))) s S m low p q r h = omega arith
within_root (suc (suc (suc (suc zero)))) s S m low p q r h = omega arith
within_root (suc (suc (suc (suc (suc zero))))) s S m low p q r h = omega arith
within_root (suc (suc (suc (suc (suc (suc n)))))) s S m low p q r h =
    let small : n * m ≤ n * low = mul-le-mul (nat_refl n) q in
    let l = le-div n (S * 2 ^ 48) (2 * m) (omega (arith, p)) (omega (arith, small, h, r)) in
    omega (arith, l)

-- the lower end of a square root reaches so far
reaches_least : (a low : ℤ) (lo m : ℕ) → (m + 2) * (m + 2) ≤ lo * 2 ^ 48 → pos lo ≤ℤ a → pos 0 ≤ℤ low → (a *ℤ pos (2 ^ 48)) ≤ℤ ((low +ℤ pos 2) *ℤ (low +ℤ pos 2)) → m ≤ unsigned_abs low
reaches_least a (negsuc low) lo m h k p q = absurd (omega (arith, ints, p))
reaches_least a (pos low) lo m h k p q =
    by_lt_z (pos low) (pos m)
    (λ l. let f : low + 3 ≤ m + 2 = omega (arith, ints, l) in absurd (omega (arith, ints, mul-le-mul f f, h, k, q)))
    (λ l. omega (arith, ints, l))

-- ---- the square root
known_root : (e r : Extent) (x y : ℚ) (p : Reach) → IsNarrowRoot e r → Holds e.ends x → IsSqrt x y → IsKnown e x p.range p.spread → T (is_least p (root_least p)) →
    T (are_roots p.range (root_range p.range)) → IsKnown r y (root_range p.range) (p.spread * 2 ^ 48 / (2 * root_least p) + 6)
unfolding root_range
known_root e r x y p rule hx s k t u =
    let t0 = both _ _ t in
    let t1 = both _ _ t0.1 in
    let low = ends_low e x p k hx in
    let least : pos (2 ^ 36) ≤ℤ e.ends.lo = from_least (lowest p) e.ends.lo (2 ^ 36) (leb_yes t0.0) (omega arith) low in
    let near = rule.low_end k.measured least in
    by_rule r y _ _ rule.from_4096th (k.measured, least) (small_square_root k.measured.bounded) (root_inside p.range _ _ x y u s k.inside)
    (λ f. within_root r.spread e.spread p.spread (root_least p) (unsigned_abs r.ends.lo) (positive_test _ t1.0)
    (reaches_least e.ends.lo r.ends.lo (above_0 (lowest p)) (root_least p) (leb_yes t1.1) (from_above (lowest p) e.ends.lo (leb_yes t0.0) low) near.sign near.square) k.narrow
    (f (unsigned_abs r.ends.lo) (abs_is r.ends.lo near.sign)))
  where
    from_least : (l a : ℤ) (n : ℕ) → n ≤ above_0 l → 0 < n → l ≤ℤ a → pos n ≤ℤ a
    from_least l a n h p q = omega (arith, ints, above_is l n h p, q)

    from_above : (l a : ℤ) → 2 ^ 36 ≤ above_0 l → l ≤ℤ a → pos (above_0 l) ≤ℤ a
    from_above (pos l) a h q = omega (arith, ints, q)
    from_above (negsuc l) a h q = absurd (omega (arith, h))

    abs_is : (z : ℤ) → pos 0 ≤ℤ z → z ≡ pos (unsigned_abs z)
    abs_is (pos z) h = refl
    abs_is (negsuc z) h = absurd (omega (arith, ints, h))

pub sqrt_held : {A : Type 0} {C : A → Place → ℚ → Type 0} {E : A → Extent} {told : Bool} → Contained C E → {a r : A} {h : Place} {x y : ℚ} {p : Reach} →
    ((h : Place) (x y : ℚ) → IsSqrt x y → C a h x → C r h y) → (T told → IsNarrowRoot (E a) (E r)) → IsSqrt x y → IsHeld C E told a h x p → IsHeld C E told r h y (rooted p)
unfolding rooted
sqrt_held {E = E} law {a} {r} {h} {x} {y} {p} covers narrow s k =
    record {
      covers = covers h x y s k.covers;
      known = λ told t. let t0 = both _ _ t in let t1 = both _ _ t0.0 in known_root (E a) (E r) x y p (narrow told) (law a h x k.covers) s (k.known told t1.0) t1.1 t0.1;
    }

-- ---- the cube root of the square
known_cube_root : (e r : Extent) (x y : ℚ) (p : Reach) → IsNarrowCbrt2 e r → Holds e.ends x → IsCbrt2 x y → IsKnown e x p.range p.spread → T (leb (2 ^ 42) (above_0 (lowest p))) →
    T (coef_le (record { num = pos 0; under = 0 }) p.range.low) → T (are_cube_roots p.range (cube_root_range p.range)) → IsKnown r y (cube_root_range p.range) (3 * p.spread + 6)
unfolding cube_root_range
known_cube_root e r x y p rule hx s k t o u =
    let low = ends_low e x p k hx in
    by_rule r y _ _ rule (k.measured, omega (arith, ints, above_is (lowest p) (2 ^ 42) (leb_yes t) (omega arith), low)) (small_cube_root k.measured.bounded)
    (cube_inside p.range _ _ x y o u s k.inside) (λ f. omega (arith, f, k.narrow))

pub cbrt2_held : {A : Type 0} {C : A → Place → ℚ → Type 0} {E : A → Extent} {told : Bool} → Contained C E → {a r : A} {h : Place} {x y : ℚ} {p : Reach} →
    ((h : Place) (x y : ℚ) → IsCbrt2 x y → C a h x → C r h y) → (T told → IsNarrowCbrt2 (E a) (E r)) → IsCbrt2 x y → IsHeld C E told a h x p → IsHeld C E told r h y (cube_rooted p)
unfolding cube_rooted
cbrt2_held {E = E} law {a} {r} {h} {x} {y} {p} covers narrow s k =
    record {
      covers = covers h x y s k.covers;
      known = λ told t.
          let t0 = both _ _ t in
          let t1 = both _ _ t0.0 in
          let t2 = both _ _ t0.1 in
          known_cube_root (E a) (E r) x y p (narrow told) (law a h x k.covers) s (k.known told t1.0) t1.1 t2.0 t2.1;
    }
