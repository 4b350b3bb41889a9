-- The range of 1 / x, for x in a range on one side of 0.
use Rattle.std.proofs.Common.{◌≡◌, ◌∙◌, ap, sym, subst, [], ◌∷◌, ◌⊎◌, inl, inr, zero, suc, ℕ, ℤ, pos, negsuc}
use Rattle.exact.specs.Rational.{ℚ, ratio, of_int, inverse, ◌*ℚ◌, neg_ℚ, one_ℚ, zero_ℚ, ◌≤ℚ◌}
use Rattle.exact.specs.Interval.{Coef, number_of, Interval, Inside}
use Rattle.exact.proofs.RationalRing.{ring, reads}
use Rattle.exact.proofs.Order.{NonNeg, gap, known, le_by, same_sign, ◌⊗◌}
use Rattle.exact.proofs.Bounds.{neg_le_neg}
use Rattle.exact.proofs.Strict.{Positive, mul_inverse, not_both, not_zero, positive_sum, positive_above}
use Rattle.exact.proofs.Integers.{ratio_is_product, ratio_neg}
use Rattle.fixed_iv.specs.Reach.{coef_inverse, interval_inverse}
use Rattle.fixed_iv.proofs.QuotientLemmas.{cancel, unit_ratio}

-- r is 1 / l, and of its sign
record IsInverse (r l : ℚ) : Type 0 where
  pub sign : NonNeg r
  pub is : r *ℚ l ≡ one_ℚ

fraction : ℤ → ℕ → Coef
fraction n u = record { num = n; under = u }

swapped : (n u : ℕ) → ratio (pos (suc u)) (suc n) *ℚ ratio (pos (suc n)) (suc u) ≡ one_ℚ
swapped n u =
    ap (λ t. t *ℚ ratio (pos (suc n)) (suc u)) (ratio_is_product (pos (suc u)) (suc n))
    ∙ ap (λ t. of_int (pos (suc u)) *ℚ ratio (pos 1) (suc n) *ℚ t) (ratio_is_product (pos (suc n)) (suc u))
    ∙ ring (of_int (pos (suc u)) ∷ of_int (pos (suc n)) ∷ ratio (pos 1) (suc n) ∷ ratio (pos 1) (suc u) ∷ [])
    {y = (ratio (pos 1) (suc n) *ℚ of_int (pos (suc n))) *ℚ (ratio (pos 1) (suc u) *ℚ of_int (pos (suc u)))} (search reads depth 90) tt
    ∙ ap (λ t. t *ℚ (ratio (pos 1) (suc u) *ℚ of_int (pos (suc u)))) (unit_ratio n)
    ∙ ap (λ t. one_ℚ *ℚ t) (unit_ratio u)
    ∙ ring [] (search reads depth 90) tt

inverse_positive : (n : ℤ) (u : ℕ) → Positive (ratio n (suc u)) → IsInverse (number_of (coef_inverse (record { num = n; under = u }))) (ratio n (suc u))
unfolding ratio
inverse_positive (pos zero) u p = absurd (not_both p (subst NonNeg (ratio_neg (pos 0) (suc u)) (known 0 (suc u))))
inverse_positive (pos (suc n)) u p = record { sign = known (suc u) (suc n); is = swapped n u }
inverse_positive (negsuc n) u p = absurd (not_both p (subst NonNeg (ratio_neg (negsuc n) (suc u)) (known (suc n) (suc u))))

-- the inverse of a number not below l, and of one not above h
inverse_below : {x l r : ℚ} → IsInverse r l → Positive x → l ≤ℚ x → inverse x ≤ℚ r
inverse_below {x} {l} {r} i p h = cancel p (rw (whole, ← i.is) (le_by (x ∷ l ∷ r ∷ []) (i.sign ⊗ gap h) (search reads depth 90) tt))
  where
    whole : inverse x *ℚ x ≡ one_ℚ
    whole = ring (x ∷ inverse x ∷ []) {y = x *ℚ inverse x} (search reads depth 90) tt ∙ mul_inverse x (not_zero p)

inverse_above : {x h r : ℚ} → IsInverse r h → Positive x → x ≤ℚ h → r ≤ℚ inverse x
inverse_above {x} {h} {r} i p k = cancel p (rw (whole, ← i.is) (le_by (x ∷ h ∷ r ∷ []) (i.sign ⊗ gap k) (search reads depth 90) tt))
  where
    whole : inverse x *ℚ x ≡ one_ℚ
    whole = ring (x ∷ inverse x ∷ []) {y = x *ℚ inverse x} (search reads depth 90) tt ∙ mul_inverse x (not_zero p)

inverse_negative : (n : ℤ) (u : ℕ) → Positive (neg_ℚ (ratio n (suc u))) → IsInverse (neg_ℚ (number_of (coef_inverse (record { num = n; under = u })))) (neg_ℚ (ratio n (suc u)))
unfolding ratio
inverse_negative (pos n) u p = absurd (not_both p (same_sign (ring (ratio (pos n) (suc u) ∷ []) (search reads depth 90) tt) (known n (suc u))))
inverse_negative (negsuc n) u p = record {
  sign = subst NonNeg (ratio_neg (negsuc u) (suc n)) (known (suc u) (suc n));
  is = ring (ratio (negsuc u) (suc n) ∷ ratio (negsuc n) (suc u) ∷ []) {y = neg_ℚ (ratio (negsuc u) (suc n)) *ℚ neg_ℚ (ratio (negsuc n) (suc u))} (search reads depth 90) tt
      ∙ ap (λ t. t *ℚ neg_ℚ (ratio (negsuc n) (suc u))) (sym (ratio_neg (negsuc u) (suc n)))
      ∙ ap (λ t. ratio (pos (suc u)) (suc n) *ℚ t) (sym (ratio_neg (negsuc n) (suc u)))
      ∙ swapped n u;
}

inverse_neg : (x : ℚ) → Positive (neg_ℚ x) → inverse (neg_ℚ x) ≡ neg_ℚ (inverse x)
inverse_neg x p =
    ring (inverse (neg_ℚ x) ∷ []) {y = inverse (neg_ℚ x) *ℚ one_ℚ} (search reads depth 90) tt
    ∙ ap (λ t. inverse (neg_ℚ x) *ℚ t) (sym (mul_inverse x nonzero))
    ∙ ring (inverse (neg_ℚ x) ∷ x ∷ inverse x ∷ []) {y = (neg_ℚ x *ℚ inverse (neg_ℚ x)) *ℚ neg_ℚ (inverse x)} (search reads depth 90) tt
    ∙ ap (λ t. t *ℚ neg_ℚ (inverse x)) (mul_inverse (neg_ℚ x) (not_zero p))
    ∙ ring (inverse x ∷ []) (search reads depth 90) tt
  where
    nonzero : ¬ (x ≡ zero_ℚ)
    nonzero e = not_zero p (ap neg_ℚ e ∙ ring [] (search reads depth 90) tt)

-- above 0, or below it
abbrev pub IsOneSided : Interval → Type 0
IsOneSided i = (Positive (number_of i.low)) ⊎ (Positive (neg_ℚ (number_of i.high)))

pub inverse_holds : (i : Interval) (x : ℚ) → IsOneSided i → Inside i x → Inside (interval_inverse i) (inverse x)
unfolding ratio
inverse_holds i x (inl p) h = record {
  low = inverse_above (inverse_positive i.high.num i.high.under (positive_above (positive_above p h.low) h.high)) (positive_above p h.low) h.high;
  high = inverse_below (inverse_positive i.low.num i.low.under p) (positive_above p h.low) h.low;
}
inverse_holds i x (inr p) h =
    let y = positive_above p (neg_le_neg h.high) in
    let e = inverse_neg x y in
    record {
      low = from_neg _ _ e (inverse_below (inverse_negative i.high.num i.high.under p) y (neg_le_neg h.high));
      high = to_neg _ _ e (inverse_above (inverse_negative i.low.num i.low.under (positive_above y (neg_le_neg h.low))) y (neg_le_neg h.low));
    }
  where
    from_neg : (r z : ℚ) → inverse (neg_ℚ x) ≡ neg_ℚ z → inverse (neg_ℚ x) ≤ℚ neg_ℚ r → r ≤ℚ z
    from_neg r z e k = le_by (r ∷ z ∷ []) (gap (rw e at k)) (search reads depth 90) tt

    to_neg : (r z : ℚ) → inverse (neg_ℚ x) ≡ neg_ℚ z → neg_ℚ r ≤ℚ inverse (neg_ℚ x) → z ≤ℚ r
    to_neg r z e k = le_by (r ∷ z ∷ []) (gap (rw e at k)) (search reads depth 90) tt
