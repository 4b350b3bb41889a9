-- The greatest whole number that is at most a rational number.
use Rattle.std.proofs.Common.{◌≡◌, arith, ℕ, zero, suc, ◌*◌, ◌<◌, [], ◌∷◌, sym, ap, subst, ⊎_elim, div-add-mod', mod-lt}
use Rattle.std.proofs.lemmas.Int.{ints}
use native.Mathlib.Nat.{zero-lt-suc}
use lib.IntN.{ℤ, pos, negsuc, ◌+ℤ◌, ◌*ℤ◌, ℤ_set}
use lib.Signed.{◌≤ℤ◌}
use lib.Dec.{T_prop}
use mathlib.Core.Quot.{lift}
use Rattle.algebra.specs.Fraction.{Frac, ◌≋◌}
use Rattle.algebra.proofs.IntRing.{ring_ℤ, reads_ℤ}
use Rattle.exact.specs.Rational.{ℚ, number, ◌+ℚ◌, of_int, ratio, one_ℚ, ◌≤ℚ◌}
use Rattle.exact.proofs.RationalLaws.{for_all₁}
use Rattle.exact.specs.Interval.{floor}
use Rattle.exact.proofs.Integers.{of_int_add, of_int_is}
use Rattle.exact.proofs.Fractions.{le_of_cross, cross_of_le, equal_of_cross}
use Rattle.sgp4_model.proofs.PairLaws.{ordered}

-- 0 is not below itself
not_below_0 : 0 < 0 → ⊥
not_below_0 h = omega (arith, h)

-- the whole part of n / d: d times it is at most n, and d times one more is more than n
floor_low : (n : ℤ) (d : ℕ) → 0 < d → (floor n d *ℤ pos d) ≤ℤ (n *ℤ pos 1)
floor_low n zero h = absurd (not_below_0 h)
floor_low (pos n) (suc d) h = omega (arith, ints, div-add-mod' n (suc d))
floor_low (negsuc n) (suc d) h = omega (arith, ints, div-add-mod' n (suc d), mod-lt n (zero-lt-suc d))

-- the other side of it
floor_high : (n : ℤ) (d : ℕ) → 0 < d → (n *ℤ pos 1 +ℤ pos 1) ≤ℤ (floor n d *ℤ pos d +ℤ pos d)
floor_high n zero h = absurd (not_below_0 h)
floor_high (pos n) (suc d) h = omega (arith, ints, div-add-mod' n (suc d), mod-lt n (zero-lt-suc d))
floor_high (negsuc n) (suc d) h = omega (arith, ints, div-add-mod' n (suc d))

-- a product by f and by 1 more
one_more : (f d : ℤ) → f *ℤ d +ℤ d ≡ (f +ℤ pos 1) *ℤ d
one_more f d = ring_ℤ (f ∷ d ∷ []) (search reads_ℤ depth 20) tt

-- of two products by d the larger has the larger factor
cancel : (z w : ℤ) (d : ℕ) → (z *ℤ pos d +ℤ pos 1) ≤ℤ (w *ℤ pos d +ℤ pos d) → z ≤ℤ w
cancel z w d h = ⊎_elim (λ o. omega (arith, ints, o.1)) (λ o. above o.0 o.1) (ordered z w)
  where
    product : (w n d : ℤ) → (w +ℤ n) *ℤ d ≡ w *ℤ d +ℤ n *ℤ d
    product w n d = ring_ℤ (w ∷ n ∷ d ∷ []) (search reads_ℤ depth 20) tt

    above : (n : ℕ) → z ≡ w +ℤ pos n → z ≤ℤ w
    above zero e = omega (arith, ints, e)
    above (suc n) e =
        let k : z *ℤ pos d ≡ w *ℤ pos d +ℤ pos (suc n * d) = rw e (product w (pos (suc n)) (pos d)) in
        omega (arith, ints, k, h)

-- the whole part of a fraction
pub whole : Frac → ℤ
whole a = floor a.num a.den

module _ (a : Frac) where
  -- the whole part is at most the fraction
  whole_low : of_int (whole a) ≤ℚ number a
  unfolding of_int ratio number whole
  whole_low = le_of_cross (record { num = whole a; den = 1; fits = zero-lt-suc 0 }) a (floor_low a.num a.den a.fits)

  -- the fraction is at most the next whole number
  whole_high : number a ≤ℚ of_int (whole a +ℤ pos 1)
  unfolding of_int ratio number whole
  whole_high =
      le_of_cross a (record { num = whole a +ℤ pos 1; den = 1; fits = zero-lt-suc 0 })
      (rw (← (one_more (whole a) (pos a.den))) (omega (arith, ints, floor_high a.num a.den a.fits)))

  -- no larger whole number is at most the fraction
  whole_most : (z : ℤ) → of_int z ≤ℚ number a → z ≤ℤ whole a
  unfolding of_int ratio number whole
  whole_most z h =
      let k : (z *ℤ pos a.den) ≤ℤ (a.num *ℤ pos 1) = cross_of_le (record { num = z; den = 1; fits = zero-lt-suc 0 }) a h in
      cancel z (whole a) a.den (omega (arith, ints, k, floor_high a.num a.den a.fits))

-- equal fractions have the same whole part
pub whole_same : (a b : Frac) → a ≋ b → whole a ≡ whole b
whole_same a b e =
    let h : whole a ≤ℤ whole b = whole_most b (whole a) (subst (λ t. of_int (whole a) ≤ℚ t) (equal_of_cross a b e) (whole_low a)) in
    let k : whole b ≤ℤ whole a = whole_most a (whole b) (subst (λ t. of_int (whole b) ≤ℚ t) (sym (equal_of_cross a b e)) (whole_low b)) in
    omega (arith, ints, h, k)

-- the whole part of a rational number
unfoldable pub floor_ℚ : ℚ → ℤ
floor_ℚ = lift ℤ_set whole whole_same

-- there is one proof of an inequality
le_prop : (x y : ℚ) → IsProp (x ≤ℚ y)
le_prop x y h k = ap (λ t. record { le = t }) (T_prop _ h.le k.le)

-- the whole part is at most the number
pub floor_ℚ_le : (x : ℚ) → of_int (floor_ℚ x) ≤ℚ x
unfolding floor_ℚ number
floor_ℚ_le = for_all₁ (λ x. le_prop _ x) whole_low

-- the number is at most the next whole number
below_next : (x : ℚ) → x ≤ℚ of_int (floor_ℚ x +ℤ pos 1)
unfolding floor_ℚ number
below_next = for_all₁ (λ x. le_prop x _) whole_high

-- the number is at most the whole part and 1
pub le_floor_ℚ : (x : ℚ) → x ≤ℚ of_int (floor_ℚ x) +ℚ one_ℚ
le_floor_ℚ x = rw (of_int_add (floor_ℚ x) (pos 1), of_int_is (pos 1)) at (below_next x)
