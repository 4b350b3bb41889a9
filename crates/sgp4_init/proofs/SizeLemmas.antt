-- Absolute values, enclosed by the bounds of the number.
use Rattle.std.proofs.Common.{arith, ◌≡◌, refl, sym, subst, ltb, T, Bool, zero, suc, negsuc, [], ◌∷◌, inl, inr, pos, ℤ, ◌≤ℤ◌, ◌<ℤ◌}
use Rattle.std.proofs.lemmas.Int.{ints}
use Rattle.exact.specs.Rational.{ℚ, of_int, abs_ℚ, neg_ℚ, zero_ℚ, ◌≤ℚ◌}
use Rattle.exact.proofs.RationalRing.{reads}
use Rattle.exact.proofs.Order.{◌⊕◌, ◌⊗◌, gap, known, le_by, le_antisym, le_refl, le_trans, le_of_not_negative}
use Rattle.exact.proofs.Bounds.{abs_le, by_abs, le_abs, neg_le_abs}
use Rattle.exact.proofs.Integers.{of_int_is, of_int_le}
use Rattle.fixed_iv.specs.Common.{IsMaximum}
use Rattle.fixed_iv.specs.Ends.{in_units}
use Rattle.fixed_iv.specs.Extent.{Extent}
use Rattle.fixed_iv.specs.Place.{Place}
use Rattle.fixed_iv.specs.Reach.{Reach, IsHeld, above_0, lowest}
use Rattle.fixed_iv.specs.Holds.{Holds, InEither, IsTightest}
use Rattle.fixed_iv.specs.Results.{IsNegative, IsRatio}
use Rattle.fixed_iv.specs.declared.iv.Iv.{Iv}
use Rattle.sgp4_init.specs.Numerals.{sized}
use Rattle.fixed_iv.proofs.Held.{Contained, held_at}
use Rattle.fixed_iv.proofs.HeldLemmas.{holds_negative}
use Rattle.fixed_iv.proofs.OuterLemmas.{both, ends_low}

pub abs_of_high : {y : ℚ} → zero_ℚ ≤ℚ y → abs_ℚ y ≡ y
abs_of_high {y} h = le_antisym (abs_le (le_by (y ∷ []) (gap h ⊕ gap h) (search reads depth 90) tt) (le_refl y)) (le_abs y)

abs_of_low : {y : ℚ} → y ≤ℚ zero_ℚ → abs_ℚ y ≡ neg_ℚ y
abs_of_low {y} h = le_antisym (abs_le (le_by (y ∷ []) (known 0 1) (search reads depth 90) tt) (le_by (y ∷ []) (gap h ⊕ gap h) (search reads depth 90) tt)) (neg_le_abs y)

of_zero : of_int (pos 0) ≡ zero_ℚ
of_zero = of_int_is (pos 0)

-- where the lower end is above 0, the number is its own absolute value
pub size_above : {v : Iv} {y : ℚ} → pos 0 <ℤ v.lo → Holds v y → y ≡ abs_ℚ y
size_above {v} {y} p h = sym (abs_of_high (le_by (y ∷ []) (known 1 281474976710656 ⊗ gap low) (search reads depth 90) tt))
  where
    low : zero_ℚ ≤ℚ in_units y
    low = rw (← of_zero) (le_trans (of_int_le (omega (arith, ints, p))) (h.low (omega (arith, ints, p))))

-- where the upper end is below 0, its negative is
pub size_below : {v : Iv} {y : ℚ} → v.hi <ℤ pos 0 → Holds v y → neg_ℚ y ≡ abs_ℚ y
size_below {v} {y} p h = sym (abs_of_low (le_by (y ∷ []) (known 1 281474976710656 ⊗ gap high) (search reads depth 90) tt))
  where
    high : in_units y ≤ℚ zero_ℚ
    high = rw (← of_zero) (le_trans (h.high (omega (arith, ints, p))) (of_int_le (omega (arith, ints, p))))

-- else it lies between 0 and the greater size of an end
pub size_within : {v negative either zero size : Iv} {y : ℚ} → IsNegative v negative → IsTightest (InEither v negative) either →
    IsTightest (IsRatio (pos 0) (pos 1)) zero → IsMaximum either zero size → Holds v y → Holds size (abs_ℚ y)
size_within {v} {negative} {either} {zero} {size} {y} n e z m h =
    m.holds _ record {
      left = abs_ℚ y;
      right = zero_ℚ;
      of_left = by_abs (Holds either) y (λ _. e.holds _ (inl h)) (λ _. e.holds _ (inr (holds_negative n h)));
      of_right = z.holds _ refl;
      is = record { not_below_left = le_refl _; not_below_right = by_abs (λ t. zero_ℚ ≤ℚ t) y le_of_not_negative le_of_not_negative; is = inl refl };
    }

-- ---- with numerals
pub held_above : {A : Type 0} {C : A → Place → ℚ → Type 0} {E : A → Extent} {told : Bool} {a : A} {h : Place} {y : ℚ} {r : Reach} {v : Iv} →
    v ≡ (E a).ends → Contained C E → pos 0 <ℤ v.lo → IsHeld C E told a h y r → IsHeld C E told a h (abs_ℚ y) (sized r)
unfolding sized
held_above {C = C} {E} {told} {a} {h} {y} {r} {v} e law p k =
    let same = held_at (size_above p (subst (λ v. Holds v y) (sym e) (law a h y k.covers))) k in
    record { covers = same.covers; known = λ told t. same.known told (both _ _ t).0 }

positive_part : (z : ℤ) → T (ltb 0 (above_0 z)) → pos 0 <ℤ z
positive_part (pos zero) t = absurd t
positive_part (pos (suc n)) t = omega (arith, ints)
positive_part (negsuc n) t = absurd t

pub held_else : {A : Type 0} {C : A → Place → ℚ → Type 0} {E : A → Extent} {told : Bool} {a result : A} {h : Place} {y : ℚ} {r : Reach} {v : Iv} →
    v ≡ (E a).ends → Contained C E → v.lo ≤ℤ pos 0 → IsHeld C E told a h y r → C result h (abs_ℚ y) → IsHeld C E told result h (abs_ℚ y) (sized r)
unfolding sized
held_else {C = C} {E} {told} {a} {result} {h} {y} {r} {v} e law p k covers =
    record {
      covers = covers;
      known = λ told t. let t0 = both _ _ t in absurd (apart (positive_part (lowest r) t0.1) (ends_low (E a) y r (k.known told t0.0) (law a h y k.covers)) (subst (λ v. v.lo ≤ℤ pos 0) e p));
    }
  where
    apart : {l m : ℤ} → pos 0 <ℤ l → l ≤ℤ m → m ≤ℤ pos 0 → ⊥
    apart p q r = omega (arith, ints, p, q, r)
