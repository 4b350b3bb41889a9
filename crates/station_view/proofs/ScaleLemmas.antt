-- Comparisons of numbers that are multiplied by a range above 0.
use Rattle.std.proofs.Common.{◌≡◌, [], ◌∷◌, ◌∙◌, ap, subst}
use Rattle.exact.specs.Rational.{ℚ, ◌+ℚ◌, ◌-ℚ◌, ◌*ℚ◌, ◌/ℚ◌, inverse, neg_ℚ, one_ℚ, zero_ℚ, ◌≤ℚ◌, ◌<ℚ◌}
use Rattle.exact.proofs.RationalRing.{ring, reads}
use Rattle.exact.proofs.Order.{gap, le_of_gap, le_of_not_negative, not_negative, same_sign, ◌⊗◌}
use Rattle.exact.proofs.Strict.{Positive, lt_of_gap, mul_inverse, not_zero, positive_gap, positive_inverse, positive_known, positive_product, positive_weak}

pub positive_of : {r : ℚ} → zero_ℚ <ℚ r → Positive r
positive_of {r} h = subst Positive (ring (r ∷ []) (search reads depth 90) tt) (positive_gap h)

-- less at a range is less
pub cancel_lt : (x y r : ℚ) → zero_ℚ <ℚ r → x *ℚ r <ℚ y *ℚ r → x <ℚ y
cancel_lt x y r p h =
    let above = positive_of p in
    lt_of_gap (subst Positive (regroup x y r (inverse r) (mul_inverse r (not_zero above))) (positive_product (positive_gap h) (positive_inverse above)))
  where
    regroup : (x y r i : ℚ) → r *ℚ i ≡ one_ℚ → (y *ℚ r -ℚ x *ℚ r) *ℚ i ≡ y -ℚ x
    regroup x y r i e = ring (x ∷ y ∷ r ∷ i ∷ []) (search reads depth 90) tt ∙ ap (λ t. (y -ℚ x) *ℚ t) e ∙ ring (x ∷ y ∷ []) (search reads depth 90) tt

-- at most b more at a range is at most b / range more
pub scaled_le : (x y b r : ℚ) → zero_ℚ <ℚ r → x *ℚ r ≤ℚ y *ℚ r +ℚ b → x ≤ℚ y +ℚ b /ℚ r
scaled_le x y b r p h =
    let above = positive_of p in
    le_of_gap (same_sign (regroup x y b r (inverse r) (mul_inverse r (not_zero above))) (gap h ⊗ positive_weak (positive_inverse above)))
  where
    regroup : (x y b r i : ℚ) → r *ℚ i ≡ one_ℚ → (y *ℚ r +ℚ b -ℚ x *ℚ r) *ℚ i ≡ y +ℚ b *ℚ i -ℚ x
    regroup x y b r i e =
        ring (x ∷ y ∷ b ∷ r ∷ i ∷ []) (search reads depth 90) tt ∙ ap (λ t. (y -ℚ x) *ℚ t +ℚ b *ℚ i) e ∙ ring (x ∷ y ∷ b ∷ i ∷ []) (search reads depth 90) tt

-- a cross product at a range is at least -b: so the one without it is at least -b / range
pub scaled_cross : (x c y s b r : ℚ) → zero_ℚ <ℚ r → neg_ℚ b ≤ℚ c *ℚ (x *ℚ r) -ℚ s *ℚ (y *ℚ r) → neg_ℚ (b /ℚ r) ≤ℚ x *ℚ c -ℚ y *ℚ s
scaled_cross x c y s b r p h =
    let above = positive_of p in
    le_of_gap (same_sign (regroup x c y s b r (inverse r) (mul_inverse r (not_zero above))) (gap h ⊗ positive_weak (positive_inverse above)))
  where
    regroup : (x c y s b r i : ℚ) → r *ℚ i ≡ one_ℚ → (c *ℚ (x *ℚ r) -ℚ s *ℚ (y *ℚ r) -ℚ neg_ℚ b) *ℚ i ≡ x *ℚ c -ℚ y *ℚ s -ℚ neg_ℚ (b *ℚ i)
    regroup x c y s b r i e =
        ring (x ∷ c ∷ y ∷ s ∷ b ∷ r ∷ i ∷ []) (search reads depth 90) tt ∙ ap (λ t. (x *ℚ c -ℚ y *ℚ s) *ℚ t +ℚ b *ℚ i) e
        ∙ ring (x ∷ c ∷ y ∷ s ∷ b ∷ i ∷ []) (search reads depth 90) tt

-- and of at least 0, the one at a range is at least 0 too
pub cross_at_range : (x c y s r : ℚ) → zero_ℚ <ℚ r → zero_ℚ ≤ℚ x *ℚ c -ℚ y *ℚ s → zero_ℚ ≤ℚ c *ℚ (x *ℚ r) -ℚ s *ℚ (y *ℚ r)
cross_at_range x c y s r p h =
    le_of_not_negative (same_sign (regroup x c y s r) (not_negative h ⊗ positive_weak (positive_of p)))
  where
    regroup : (x c y s r : ℚ) → (x *ℚ c -ℚ y *ℚ s) *ℚ r ≡ c *ℚ (x *ℚ r) -ℚ s *ℚ (y *ℚ r)
    regroup x c y s r = ring (x ∷ c ∷ y ∷ s ∷ r ∷ []) (search reads depth 90) tt

-- a number over 1
pub over_one : (b : ℚ) → b /ℚ one_ℚ ≡ b
over_one b = regroup b (inverse one_ℚ) (mul_inverse one_ℚ not_0)
  where
    not_0 : ¬ (one_ℚ ≡ zero_ℚ)
    not_0 = not_zero (positive_known 0 1)

    regroup : (b i : ℚ) → one_ℚ *ℚ i ≡ one_ℚ → b *ℚ i ≡ b
    regroup b i e = ring (b ∷ i ∷ []) (search reads depth 90) tt ∙ ap (λ t. b *ℚ t) e ∙ ring (b ∷ []) (search reads depth 90) tt
