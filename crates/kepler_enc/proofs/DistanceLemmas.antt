-- Distances in units, and numbers within them.
use Rattle.std.proofs.Common.{◌≡◌, refl, ◌^◌, ◌≤ℤ◌, arith, sym, subst, [], ◌∷◌, ℕ, ◌≤◌, ℤ, pos, neg_ℤ, ◌+ℤ◌}
use Rattle.std.proofs.lemmas.Int.{ints}
use Rattle.exact.specs.Rational.{ℚ, of_int, ratio, ◌+ℚ◌, ◌-ℚ◌, neg_ℚ, zero_ℚ, one_ℚ, ◌≤ℚ◌}
use Rattle.exact.proofs.RationalRing.{ring, reads}
use Rattle.exact.proofs.Order.{gap, known, le_by, ◌⊕◌, ◌⊗◌}
use Rattle.exact.specs.Interval.{Inside}
use Rattle.exact.proofs.Integers.{of_int_add, of_int_is, of_int_le, of_int_neg}
use Rattle.sgp4_model.specs.Angle.{IsNear}
use Rattle.fixed_iv.specs.Extent.{width_of}
use Rattle.fixed_iv.specs.Holds.{Holds, IsBounded}
use Rattle.fixed_iv.specs.declared.iv.Iv.{Iv}
use Rattle.kepler_enc.specs.Point.{at}
use Rattle.fixed_iv.proofs.OuterLemmas.{width_is}
use Rattle.kepler_enc.proofs.PointLemmas.{fraction_is_at}
use Rattle.kepler_enc.specs.Spread.{within_units}
use Rattle.kepler_enc.proofs.SizeLemmas.{at_numeral, near_point}

-- the number 1
pub at_one : at (pos 281474976710656) ≡ one_ℚ
unfolding at
at_one = rw (of_int_is (pos 281474976710656)) (ring [] (search reads depth 90) tt)

pub at_rises : {a b : ℤ} → a ≤ℤ b → at a ≤ℚ at b
unfolding at
at_rises {a} {b} h = le_by (of_int a ∷ of_int b ∷ []) (gap (of_int_le h) ⊗ known 1 281474976710656) (search reads depth 90) tt

pub at_most : {m n : ℕ} → m ≤ n → at (pos m) ≤ℚ at (pos n)
at_most h = at_rises (omega (arith, ints, h))

pub at_neg : (n : ℤ) → at (neg_ℤ n) ≡ neg_ℚ (at n)
unfolding at
at_neg n = rw (of_int_neg n) (ring (of_int n ∷ []) (search reads depth 90) tt)

pub at_sum : (a b : ℤ) → at (a +ℤ b) ≡ at a +ℚ at b
unfolding at
at_sum a b = rw (of_int_add a b) (ring (of_int a ∷ of_int b ∷ []) (search reads depth 90) tt)

-- numbers within bounds differ by their width at most
pub near_width : (v : Iv) (x y : ℚ) → IsBounded v → Holds v x → Holds v y → IsNear (at (pos (width_of v))) x y
unfolding at
near_width v x y b h k =
    let e : of_int (pos (width_of v)) ≡ of_int v.hi -ℚ of_int v.lo = rw (width_is v, of_int_add v.hi (neg_ℤ v.lo), of_int_neg v.lo) refl in
    rw e (record {
      above = le_by (of_int v.lo ∷ of_int v.hi ∷ x ∷ y ∷ []) (known 1 281474976710656 ⊗ (gap (h.high b.high) ⊕ gap (k.low b.low))) (search reads depth 90) tt;
      below = le_by (of_int v.lo ∷ of_int v.hi ∷ x ∷ y ∷ []) (known 1 281474976710656 ⊗ (gap (k.high b.high) ⊕ gap (h.low b.low))) (search reads depth 90) tt;
    })

-- a number within so many units of 0
pub inside_units : (n : ℕ) (x : ℚ) → IsNear (at (pos n)) x zero_ℚ → Inside (within_units n) x
inside_units n x h = record {
  low = subst (λ t. t ≤ℚ x) (sym (fraction_is_at (neg_ℤ (pos n)))) (rw (at_neg (pos n)) (low (at (pos n)) h));
  high = subst (λ t. x ≤ℚ t) (sym (fraction_is_at (pos n))) (high (at (pos n)) h);
}
  where
    low : (m : ℚ) → IsNear m x zero_ℚ → neg_ℚ m ≤ℚ x
    low m k = le_by (m ∷ x ∷ []) (gap k.below) (search reads depth 90) tt

    high : (m : ℚ) → IsNear m x zero_ℚ → x ≤ℚ m
    high m k = le_by (m ∷ x ∷ []) (gap k.above) (search reads depth 90) tt

-- a point lies within 65,536 of 0
pub anywhere : (v : Iv) → Inside (within_units (2 ^ 64)) (at v.lo)
anywhere v = inside_units (2 ^ 64) (at v.lo) (rw (at_numeral (2 ^ 64)) (wide (near_point v)))
  where
    wide : {x : ℚ} → IsNear (ratio (pos 65536) 1) x zero_ℚ → IsNear (ratio (pos 18446744073709551616) 281474976710656) x zero_ℚ
    wide {x} k = record { above = le_by (x ∷ []) (gap k.above) (search reads depth 90) tt; below = le_by (x ∷ []) (gap k.below) (search reads depth 90) tt }
