-- The least and the greatest product of an end and an end, by the sign of the ends.
use Rattle.std.proofs.Common.{◌≡◌, ◌∙◌, ap, subst, [], ◌∷◌, arith, ◌⊎◌, inl, inr, ⊎_elim, ℤ, pos, ◌≤ℤ◌, ◌*ℤ◌}
use Rattle.std.proofs.lemmas.Int.{ints, by_lt_z}
use Rattle.exact.specs.Rational.{ℚ, of_int, ◌*ℚ◌, zero_ℚ, ◌≤ℚ◌}
use Rattle.exact.proofs.RationalRing.{reads}
use Rattle.exact.proofs.Order.{gap, known, le_by, ◌⊕◌, ◌⊗◌}
use Rattle.exact.proofs.Integers.{of_int_is, of_int_le, of_int_mul, le_of_int}
use Rattle.fixed_iv.specs.Corners.{IsBySign, IsHighCorner, IsLowCorner}
use Rattle.fixed_iv.specs.declared.iv.Iv.{Iv}
use Rattle.fixed_iv.proofs.MinMaxLemmas.{IsGreatest, IsLeast}

-- ---- products of ends, as rational numbers: the lower end l and the upper end h of a, k and m of b
product_le : (x y z w : ℤ) → of_int x *ℚ of_int y ≤ℚ of_int z *ℚ of_int w → (x *ℤ y) ≤ℤ (z *ℤ w)
product_le x y z w h = le_of_int (rw (of_int_mul x y, of_int_mul z w) h)

not_below : {z : ℤ} → pos 0 ≤ℤ z → zero_ℚ ≤ℚ of_int z
not_below {z} h = subst (λ t. t ≤ℚ of_int z) (of_int_is (pos 0)) (of_int_le h)

not_above : {z : ℤ} → z ≤ℤ pos 0 → of_int z ≤ℚ zero_ℚ
not_above {z} h = subst (λ t. of_int z ≤ℚ t) (of_int_is (pos 0)) (of_int_le h)

-- the ends of two intervals
record AreEnds (l h k m : ℚ) : Type 0 where
  pub first : l ≤ℚ h
  pub second : k ≤ℚ m

ends_of : (a b : Iv) → AreEnds (of_int a.lo) (of_int a.hi) (of_int b.lo) (of_int b.hi)
ends_of a b = record { first = of_int_le a.ordered; second = of_int_le b.ordered }

-- r is at most each of the four products, or at least
record IsUnderAll (l h k m r : ℚ) : Type 0 where
  pub low_low : r ≤ℚ l *ℚ k
  pub low_high : r ≤ℚ l *ℚ m
  pub high_low : r ≤ℚ h *ℚ k
  pub high_high : r ≤ℚ h *ℚ m

record IsOverAll (l h k m r : ℚ) : Type 0 where
  pub low_low : l *ℚ k ≤ℚ r
  pub low_high : l *ℚ m ≤ℚ r
  pub high_low : h *ℚ k ≤ℚ r
  pub high_high : h *ℚ m ≤ℚ r

-- where a is not below 0
under_positive_negative : {l h k m : ℚ} → AreEnds l h k m → zero_ℚ ≤ℚ l → k ≤ℚ zero_ℚ → IsUnderAll l h k m (h *ℚ k)
under_positive_negative {l} {h} {k} {m} e s t = record {
  low_low = le_by (l ∷ h ∷ k ∷ m ∷ []) (gap e.first ⊗ gap t) (search reads depth 90) tt;
  low_high = le_by (l ∷ h ∷ k ∷ m ∷ []) (gap s ⊗ gap e.second ⊕ gap e.first ⊗ gap t) (search reads depth 90) tt;
  high_low = le_by (l ∷ h ∷ k ∷ m ∷ []) (known 0 1) (search reads depth 90) tt;
  high_high = le_by (l ∷ h ∷ k ∷ m ∷ []) ((gap s ⊕ gap e.first) ⊗ gap e.second) (search reads depth 90) tt;
}

under_positive_positive : {l h k m : ℚ} → AreEnds l h k m → zero_ℚ ≤ℚ l → zero_ℚ ≤ℚ k → IsUnderAll l h k m (l *ℚ k)
under_positive_positive {l} {h} {k} {m} e s t = record {
  low_low = le_by (l ∷ h ∷ k ∷ m ∷ []) (known 0 1) (search reads depth 90) tt;
  low_high = le_by (l ∷ h ∷ k ∷ m ∷ []) (gap s ⊗ gap e.second) (search reads depth 90) tt;
  high_low = le_by (l ∷ h ∷ k ∷ m ∷ []) (gap e.first ⊗ gap t) (search reads depth 90) tt;
  high_high = le_by (l ∷ h ∷ k ∷ m ∷ []) ((gap s ⊕ gap e.first) ⊗ gap e.second ⊕ gap e.first ⊗ gap t) (search reads depth 90) tt;
}

over_positive_negative : {l h k m : ℚ} → AreEnds l h k m → zero_ℚ ≤ℚ l → m ≤ℚ zero_ℚ → IsOverAll l h k m (l *ℚ m)
over_positive_negative {l} {h} {k} {m} e s t = record {
  low_low = le_by (l ∷ h ∷ k ∷ m ∷ []) (gap s ⊗ gap e.second) (search reads depth 90) tt;
  low_high = le_by (l ∷ h ∷ k ∷ m ∷ []) (known 0 1) (search reads depth 90) tt;
  high_low = le_by (l ∷ h ∷ k ∷ m ∷ []) (gap s ⊗ gap e.second ⊕ gap e.first ⊗ (gap t ⊕ gap e.second)) (search reads depth 90) tt;
  high_high = le_by (l ∷ h ∷ k ∷ m ∷ []) (gap e.first ⊗ gap t) (search reads depth 90) tt;
}

over_positive_positive : {l h k m : ℚ} → AreEnds l h k m → zero_ℚ ≤ℚ l → zero_ℚ ≤ℚ m → IsOverAll l h k m (h *ℚ m)
over_positive_positive {l} {h} {k} {m} e s t = record {
  low_low = le_by (l ∷ h ∷ k ∷ m ∷ []) (gap e.first ⊗ gap t ⊕ gap s ⊗ gap e.second) (search reads depth 90) tt;
  low_high = le_by (l ∷ h ∷ k ∷ m ∷ []) (gap e.first ⊗ gap t) (search reads depth 90) tt;
  high_low = le_by (l ∷ h ∷ k ∷ m ∷ []) ((gap s ⊕ gap e.first) ⊗ gap e.second) (search reads depth 90) tt;
  high_high = le_by (l ∷ h ∷ k ∷ m ∷ []) (known 0 1) (search reads depth 90) tt;
}

-- where a is not above 0
under_negative_negative : {l h k m : ℚ} → AreEnds l h k m → h ≤ℚ zero_ℚ → m ≤ℚ zero_ℚ → IsUnderAll l h k m (h *ℚ m)
under_negative_negative {l} {h} {k} {m} e s t = record {
  low_low = le_by (l ∷ h ∷ k ∷ m ∷ []) (gap s ⊗ gap e.second ⊕ gap e.first ⊗ gap t ⊕ gap e.first ⊗ gap e.second) (search reads depth 90) tt;
  low_high = le_by (l ∷ h ∷ k ∷ m ∷ []) (gap e.first ⊗ gap t) (search reads depth 90) tt;
  high_low = le_by (l ∷ h ∷ k ∷ m ∷ []) (gap s ⊗ gap e.second) (search reads depth 90) tt;
  high_high = le_by (l ∷ h ∷ k ∷ m ∷ []) (known 0 1) (search reads depth 90) tt;
}

under_negative_positive : {l h k m : ℚ} → AreEnds l h k m → h ≤ℚ zero_ℚ → zero_ℚ ≤ℚ m → IsUnderAll l h k m (l *ℚ m)
under_negative_positive {l} {h} {k} {m} e s t = record {
  low_low = le_by (l ∷ h ∷ k ∷ m ∷ []) ((gap s ⊕ gap e.first) ⊗ gap e.second) (search reads depth 90) tt;
  low_high = le_by (l ∷ h ∷ k ∷ m ∷ []) (known 0 1) (search reads depth 90) tt;
  high_low = le_by (l ∷ h ∷ k ∷ m ∷ []) (gap e.first ⊗ gap t ⊕ gap s ⊗ gap e.second) (search reads depth 90) tt;
  high_high = le_by (l ∷ h ∷ k ∷ m ∷ []) (gap e.first ⊗ gap t) (search reads depth 90) tt;
}

over_negative_negative : {l h k m : ℚ} → AreEnds l h k m → h ≤ℚ zero_ℚ → k ≤ℚ zero_ℚ → IsOverAll l h k m (l *ℚ k)
over_negative_negative {l} {h} {k} {m} e s t = record {
  low_low = le_by (l ∷ h ∷ k ∷ m ∷ []) (known 0 1) (search reads depth 90) tt;
  low_high = le_by (l ∷ h ∷ k ∷ m ∷ []) ((gap s ⊕ gap e.first) ⊗ gap e.second) (search reads depth 90) tt;
  high_low = le_by (l ∷ h ∷ k ∷ m ∷ []) (gap e.first ⊗ gap t) (search reads depth 90) tt;
  high_high = le_by (l ∷ h ∷ k ∷ m ∷ []) (gap e.first ⊗ gap t ⊕ gap s ⊗ gap e.second) (search reads depth 90) tt;
}

over_negative_positive : {l h k m : ℚ} → AreEnds l h k m → h ≤ℚ zero_ℚ → zero_ℚ ≤ℚ k → IsOverAll l h k m (h *ℚ k)
over_negative_positive {l} {h} {k} {m} e s t = record {
  low_low = le_by (l ∷ h ∷ k ∷ m ∷ []) (gap e.first ⊗ gap t) (search reads depth 90) tt;
  low_high = le_by (l ∷ h ∷ k ∷ m ∷ []) (gap e.first ⊗ gap t ⊕ (gap s ⊕ gap e.first) ⊗ gap e.second) (search reads depth 90) tt;
  high_low = le_by (l ∷ h ∷ k ∷ m ∷ []) (known 0 1) (search reads depth 90) tt;
  high_high = le_by (l ∷ h ∷ k ∷ m ∷ []) (gap s ⊗ gap e.second) (search reads depth 90) tt;
}

-- ---- as whole numbers
under_all : (a b : Iv) (x y : ℤ) {r : ℤ} → r ≡ x *ℤ y → IsUnderAll (of_int a.lo) (of_int a.hi) (of_int b.lo) (of_int b.hi) (of_int x *ℚ of_int y) →
    ((r ≡ a.lo *ℤ b.lo) ⊎ (r ≡ a.lo *ℤ b.hi)) ⊎ ((r ≡ a.hi *ℤ b.lo) ⊎ (r ≡ a.hi *ℤ b.hi)) → IsLowCorner a b r
under_all a b x y e h is = record {
  low_low = rw e (product_le x y a.lo b.lo h.low_low);
  low_high = rw e (product_le x y a.lo b.hi h.low_high);
  high_low = rw e (product_le x y a.hi b.lo h.high_low);
  high_high = rw e (product_le x y a.hi b.hi h.high_high);
  is = is;
}

over_all : (a b : Iv) (x y : ℤ) {r : ℤ} → r ≡ x *ℤ y → IsOverAll (of_int a.lo) (of_int a.hi) (of_int b.lo) (of_int b.hi) (of_int x *ℚ of_int y) →
    ((r ≡ a.lo *ℤ b.lo) ⊎ (r ≡ a.lo *ℤ b.hi)) ⊎ ((r ≡ a.hi *ℤ b.lo) ⊎ (r ≡ a.hi *ℤ b.hi)) → IsHighCorner a b r
over_all a b x y e h is = record {
  low_low = rw e (product_le a.lo b.lo x y h.low_low);
  low_high = rw e (product_le a.lo b.hi x y h.low_high);
  high_low = rw e (product_le a.hi b.lo x y h.high_low);
  high_high = rw e (product_le a.hi b.hi x y h.high_high);
  is = is;
}

-- one of two factors, by the sign of a number
by_factor : {P : Type 0} {n m o x r : ℤ} (y : ℤ) → IsBySign n m o x → r ≡ x *ℤ y → (n ≤ℤ pos 0 → r ≡ m *ℤ y → P) → (pos 0 ≤ℤ n → r ≡ o *ℤ y → P) → P
by_factor {n = n} y s e f g =
    by_lt_z n (pos 0)
    (λ l. f (omega (arith, ints, l)) (e ∙ ap (λ t. t *ℤ y) (s.negative l)))
    (λ l. g l (e ∙ ap (λ t. t *ℤ y) (s.other l)))

pub low_of_positive : (a b : Iv) {x r : ℤ} → pos 0 ≤ℤ a.lo → IsBySign b.lo a.hi a.lo x → r ≡ x *ℤ b.lo → IsLowCorner a b r
low_of_positive a b p s e =
    by_factor b.lo s e
    (λ t d. under_all a b a.hi b.lo d (under_positive_negative (ends_of a b) (not_below p) (not_above t)) (inr (inl d)))
    (λ t d. under_all a b a.lo b.lo d (under_positive_positive (ends_of a b) (not_below p) (not_below t)) (inl (inl d)))

pub low_of_negative : (a b : Iv) {x r : ℤ} → a.hi ≤ℤ pos 0 → IsBySign b.hi a.hi a.lo x → r ≡ x *ℤ b.hi → IsLowCorner a b r
low_of_negative a b p s e =
    by_factor b.hi s e
    (λ t d. under_all a b a.hi b.hi d (under_negative_negative (ends_of a b) (not_above p) (not_above t)) (inr (inr d)))
    (λ t d. under_all a b a.lo b.hi d (under_negative_positive (ends_of a b) (not_above p) (not_below t)) (inl (inr d)))

pub high_of_positive : (a b : Iv) {x r : ℤ} → pos 0 ≤ℤ a.lo → IsBySign b.hi a.lo a.hi x → r ≡ x *ℤ b.hi → IsHighCorner a b r
high_of_positive a b p s e =
    by_factor b.hi s e
    (λ t d. over_all a b a.lo b.hi d (over_positive_negative (ends_of a b) (not_below p) (not_above t)) (inl (inr d)))
    (λ t d. over_all a b a.hi b.hi d (over_positive_positive (ends_of a b) (not_below p) (not_below t)) (inr (inr d)))

pub high_of_negative : (a b : Iv) {x r : ℤ} → a.hi ≤ℤ pos 0 → IsBySign b.lo a.lo a.hi x → r ≡ x *ℤ b.lo → IsHighCorner a b r
high_of_negative a b p s e =
    by_factor b.lo s e
    (λ t d. over_all a b a.lo b.lo d (over_negative_negative (ends_of a b) (not_above p) (not_above t)) (inl (inl d)))
    (λ t d. over_all a b a.hi b.lo d (over_negative_positive (ends_of a b) (not_above p) (not_below t)) (inr (inl d)))

-- ---- where a has numbers on both sides of 0
left_falls : {l k m : ℚ} → l ≤ℚ zero_ℚ → k ≤ℚ m → l *ℚ m ≤ℚ l *ℚ k
left_falls {l} {k} {m} s q = le_by (l ∷ k ∷ m ∷ []) (gap s ⊗ gap q) (search reads depth 90) tt

right_rises : {h k m : ℚ} → zero_ℚ ≤ℚ h → k ≤ℚ m → h *ℚ k ≤ℚ h *ℚ m
right_rises {h} {k} {m} s q = le_by (h ∷ k ∷ m ∷ []) (gap s ⊗ gap q) (search reads depth 90) tt

≤ℤ_trans : {x y z : ℤ} → x ≤ℤ y → y ≤ℤ z → x ≤ℤ z
≤ℤ_trans h k = omega (arith, ints)

pub low_of_both : (a b : Iv) {x y r : ℤ} → a.lo ≤ℤ pos 0 → pos 0 ≤ℤ a.hi → x ≡ a.lo *ℤ b.hi → y ≡ a.hi *ℤ b.lo → IsLeast x y r → IsLowCorner a b r
low_of_both a b {r = r} p q e f h = record {
  low_low = ≤ℤ_trans (subst (λ t. r ≤ℤ t) e h.left) (product_le a.lo b.hi a.lo b.lo (left_falls (not_above p) (of_int_le b.ordered)));
  low_high = subst (λ t. r ≤ℤ t) e h.left;
  high_low = subst (λ t. r ≤ℤ t) f h.right;
  high_high = ≤ℤ_trans (subst (λ t. r ≤ℤ t) f h.right) (product_le a.hi b.lo a.hi b.hi (right_rises (not_below q) (of_int_le b.ordered)));
  is = ⊎_elim (λ d. inl (inr (d ∙ e))) (λ d. inr (inl (d ∙ f))) h.is;
}

pub high_of_both : (a b : Iv) {x y r : ℤ} → a.lo ≤ℤ pos 0 → pos 0 ≤ℤ a.hi → x ≡ a.lo *ℤ b.lo → y ≡ a.hi *ℤ b.hi → IsGreatest x y r → IsHighCorner a b r
high_of_both a b {r = r} p q e f h = record {
  low_low = subst (λ t. t ≤ℤ r) e h.left;
  low_high = ≤ℤ_trans (product_le a.lo b.hi a.lo b.lo (left_falls (not_above p) (of_int_le b.ordered))) (subst (λ t. t ≤ℤ r) e h.left);
  high_low = ≤ℤ_trans (product_le a.hi b.lo a.hi b.hi (right_rises (not_below q) (of_int_le b.ordered))) (subst (λ t. t ≤ℤ r) f h.right);
  high_high = subst (λ t. t ≤ℤ r) f h.right;
  is = ⊎_elim (λ d. inl (inl (d ∙ e))) (λ d. inr (inr (d ∙ f))) h.is;
}
