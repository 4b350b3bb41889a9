-- The tightest interval of the quotients is as narrow as the rule of quotients says.
use Rattle.std.proofs.Common.{◌≡◌, ◌∙◌, ap, subst, refl, [], ◌∷◌, arith, inl, inr, ℕ, zero, suc, ◌+◌, ◌*◌, ◌≤◌, ℤ, pos, ◌≤ℤ◌, ◌+ℤ◌, ◌-ℤ◌, neg_ℤ}
use Rattle.std.proofs.lemmas.Int.{ints}
use Rattle.exact.specs.Rational.{ℚ, of_int, ratio, ◌+ℚ◌, ◌-ℚ◌, ◌*ℚ◌, ◌/ℚ◌, neg_ℚ, zero_ℚ, one_ℚ, ◌≤ℚ◌}
use Rattle.exact.proofs.RationalRing.{ring, reads}
use Rattle.exact.proofs.Order.{NonNeg, gap, known, le_by, le_refl, le_trans, same_sign, ◌⊕◌, ◌⊗◌}
use Rattle.exact.proofs.Strict.{Positive, positive_product, positive_weak}
use Rattle.exact.proofs.Integers.{of_int_add, of_int_neg, of_int_is, of_int_le, le_of_int}
use Rattle.exact.proofs.Bounds.{square}
use Rattle.fixed_iv.specs.Ends.{in_units}
use Rattle.fixed_iv.specs.Extent.{extent_of, size, width_of}
use Rattle.fixed_iv.specs.Holds.{Holds, IsBounded}
use Rattle.fixed_iv.specs.Narrow.{IsApart, IsNarrowQuotient}
use Rattle.fixed_iv.specs.Results.{IsQuotient, IsResultOf}
use Rattle.fixed_iv.specs.declared.iv.Iv.{Iv}
use Rattle.fixed_iv.proofs.HoldsLemmas.{holds_low}
use Rattle.fixed_iv.proofs.NarrowLemmas.{narrow_by}
use Rattle.fixed_iv.proofs.OuterLemmas.{width_is}
use Rattle.fixed_iv.proofs.QuotientLemmas.{cancel, positive_divisor, unit_ratio}
use Rattle.fixed_iv.proofs.QuotientResultLemmas.{is_quotient, negative_units_not_zero, times_units, units_not_zero, zero_not_above, zero_not_below}
use Rattle.fixed_iv.proofs.SumLemmas.{result_at}
use Rattle.fixed_iv.proofs.WidthLemmas.{IsSized, natural, natural_add, natural_mul, sized, sized_difference, sized_product, tight_bounded, tight_width}

pub natural_sign : (n : ℕ) → NonNeg (natural n)
natural_sign n = by_zero (gap (of_int_le {a = pos 0} {b = pos n} (omega (arith, ints))))
  where
    by_zero : NonNeg (natural n -ℚ of_int (pos 0)) → NonNeg (natural n)
    by_zero h = same_sign (ap (λ t. natural n -ℚ t) (of_int_is (pos 0)) ∙ ring (natural n ∷ []) (search reads depth 90) tt) h

-- wa / m + sa wb / m^2, where q is 1 / m
abbrev spread : ℚ → ℚ → ℚ → ℚ → ℚ
spread q wa sa wb = ratio (pos 281474976710656) 1 *ℚ (wa *ℚ q +ℚ sa *ℚ wb *ℚ (q *ℚ q))

-- a dividend x over a divisor d, d at least 1 / q; all in units
record IsOver (q z x d : ℚ) : Type 0 where
  is : z *ℚ d ≡ ratio (pos 281474976710656) 1 *ℚ x
  positive : Positive d
  far : one_ℚ ≤ℚ q *ℚ d

scaled : {q z x d : ℚ} (e : ℚ) → IsOver q z x d → z *ℚ (d *ℚ e) ≡ ratio (pos 281474976710656) 1 *ℚ (x *ℚ e)
scaled {q} {z} {x} {d} e h =
    ring (z ∷ d ∷ e ∷ []) {y = (z *ℚ d) *ℚ e} (search reads depth 90) tt ∙ ap (λ t. t *ℚ e) h.is ∙ ring (x ∷ e ∷ []) (search reads depth 90) tt

over_near : {q wa : ℚ} (sa wb : ℚ) {y z x u d e : ℚ} → NonNeg wa → NonNeg (sa *ℚ wb) → IsOver q y x d → IsOver q z u e → IsSized wa (x -ℚ u) → u *ℚ (e -ℚ d) ≤ℚ sa *ℚ wb → y ≤ℚ z +ℚ spread q wa sa wb
over_near {q} {wa} sa wb {y} {z} {x} {u} {d} {e} n m h k a b =
    cancel (positive_product h.positive k.positive)
    (le_eq (scaled e h) (scaled d k)
    (le_by (q ∷ wa ∷ sa ∷ wb ∷ x ∷ u ∷ d ∷ e ∷ [])
    (known 281474976710656 1 ⊗ (gap a.high ⊗ weak ⊕ n ⊗ gap h.far ⊗ weak ⊕ gap b ⊕ m ⊗ (gap h.far ⊗ (gap k.far ⊕ known 1 1) ⊕ gap k.far)))
    (search reads depth 90) tt))
  where
    weak : NonNeg e
    weak = positive_weak k.positive

    same : z *ℚ (e *ℚ d) ≡ ratio (pos 281474976710656) 1 *ℚ (u *ℚ d) → ratio (pos 281474976710656) 1 *ℚ (u *ℚ d) +ℚ spread q wa sa wb *ℚ (d *ℚ e) ≤ℚ (z +ℚ spread q wa sa wb) *ℚ (d *ℚ e)
    same g = rw (← g) (le_by (q ∷ wa ∷ sa ∷ wb ∷ z ∷ d ∷ e ∷ []) (known 0 1) (search reads depth 90) tt)

    le_eq : y *ℚ (d *ℚ e) ≡ ratio (pos 281474976710656) 1 *ℚ (x *ℚ e) → z *ℚ (e *ℚ d) ≡ ratio (pos 281474976710656) 1 *ℚ (u *ℚ d) →
        ratio (pos 281474976710656) 1 *ℚ (x *ℚ e) ≤ℚ ratio (pos 281474976710656) 1 *ℚ (u *ℚ d) +ℚ spread q wa sa wb *ℚ (d *ℚ e) → y *ℚ (d *ℚ e) ≤ℚ (z +ℚ spread q wa sa wb) *ℚ (d *ℚ e)
    le_eq f g l = rw f (le_trans l (same g))

-- ---- quotients of held numbers
over_is : {y : ℚ} (left right : ℚ) → ¬ (right ≡ zero_ℚ) → y ≡ left /ℚ right → in_units y *ℚ in_units right ≡ ratio (pos 281474976710656) 1 *ℚ in_units left
over_is {y} left right n e =
    ring (y ∷ right ∷ []) {y = ratio (pos 281474976710656) 1 *ℚ (y *ℚ in_units right)} (search reads depth 90) tt
    ∙ ap (λ t. ratio (pos 281474976710656) 1 *ℚ t) (times_units y right (is_quotient n e))

-- 1 / m
abbrev part_of : ℕ → ℚ
part_of k = ratio (pos 1) (suc k)

is_far : (k : ℕ) {d : ℚ} → natural (suc k) ≤ℚ d → one_ℚ ≤ℚ part_of k *ℚ d
is_far k {d} h = le_trans (whole (unit_ratio k)) (le_by (part_of k ∷ natural (suc k) ∷ d ∷ []) (known 1 (suc k) ⊗ gap h) (search reads depth 90) tt)
  where
    whole : part_of k *ℚ natural (suc k) ≡ one_ℚ → one_ℚ ≤ℚ part_of k *ℚ natural (suc k)
    whole e = rw e (le_refl one_ℚ)

over_positive : {a b : Iv} {y : ℚ} (k : ℕ) → IsBounded b → pos (suc k) ≤ℤ b.lo → (r : IsResultOf ◌/ℚ◌ a b y) → IsOver (part_of k) (in_units y) (in_units r.left) (in_units r.right)
over_positive k q p r =
    let l : natural (suc k) ≤ℚ in_units r.right = le_trans (of_int_le p) (r.of_right.low q.low) in
    let positive = positive_divisor {least = pos (suc k)} (omega (arith, ints)) l in
    record { is = over_is r.left r.right (units_not_zero positive) r.is; positive = positive; far = is_far k l }

over_negative : {a b : Iv} {y : ℚ} (k : ℕ) → IsBounded b → (b.hi +ℤ pos (suc k)) ≤ℤ pos 0 → (r : IsResultOf ◌/ℚ◌ a b y) → IsOver (part_of k) (in_units y) (neg_ℚ (in_units r.left)) (neg_ℚ (in_units r.right))
over_negative {b = b} {y} k q p r =
    let l : natural (suc k) ≤ℚ neg_ℚ (in_units r.right) = below_neg (in_units r.right) (le_trans (r.of_right.high q.high) (of_int_le (omega (arith, ints)))) in
    let positive = positive_divisor {least = pos (suc k)} (omega (arith, ints)) l in
    record { is = negated (in_units y) (in_units r.left) (in_units r.right) (over_is r.left r.right (negative_units_not_zero positive) r.is); positive = positive; far = is_far k l }
  where
    below_neg : (x : ℚ) → x ≤ℚ of_int (neg_ℤ (pos (suc k))) → natural (suc k) ≤ℚ neg_ℚ x
    below_neg x h = le_by (natural (suc k) ∷ x ∷ []) (gap (rw of_int_neg at h)) (search reads depth 90) tt

    negated : (z x d : ℚ) → z *ℚ d ≡ ratio (pos 281474976710656) 1 *ℚ x → z *ℚ neg_ℚ d ≡ ratio (pos 281474976710656) 1 *ℚ neg_ℚ x
    negated z x d e = ring (z ∷ d ∷ []) {y = neg_ℚ (z *ℚ d)} (search reads depth 90) tt ∙ ap neg_ℚ e ∙ ring (x ∷ []) (search reads depth 90) tt

abbrev spread_of : Iv → Iv → ℕ → ℚ
spread_of a b k = spread (part_of k) (natural (width_of a)) (natural (size a)) (natural (width_of b))

quotients_near : (a b : Iv) (k : ℕ) → IsBounded a → IsBounded b → IsApart b (suc k) → (y z : ℚ) → IsResultOf ◌/ℚ◌ a b y → IsResultOf ◌/ℚ◌ a b z → in_units y ≤ℚ in_units z +ℚ spread_of a b k
quotients_near a b k p q (inl l) y z r w =
    over_near (natural (size a)) (natural (width_of b)) (natural_sign (width_of a)) (natural_sign (size a) ⊗ natural_sign (width_of b)) (over_positive k q l r) (over_positive k q l w)
    (sized_difference p r.of_left w.of_left) (sized_product (sized p w.of_left) (sized_difference q w.of_right r.of_right))
quotients_near a b k p q (inr l) y z r w =
    over_near (natural (size a)) (natural (width_of b)) (natural_sign (width_of a)) (natural_sign (size a) ⊗ natural_sign (width_of b)) (over_negative k q l r) (over_negative k q l w)
    (subst (IsSized (natural (width_of a))) (opposite (in_units r.left) (in_units w.left)) (sized_difference p w.of_left r.of_left))
    (subst (λ t. t ≤ℚ natural (size a) *ℚ natural (width_of b)) (opposites (in_units w.left) (in_units w.right) (in_units r.right))
    (sized_product (sized p w.of_left) (sized_difference q w.of_right r.of_right)))
  where
    opposite : (x u : ℚ) → u -ℚ x ≡ neg_ℚ x -ℚ neg_ℚ u
    opposite x u = ring (x ∷ u ∷ []) (search reads depth 90) tt

    opposites : (u e d : ℚ) → u *ℚ (e -ℚ d) ≡ neg_ℚ u *ℚ (neg_ℚ e -ℚ neg_ℚ d)
    opposites u e d = ring (u ∷ e ∷ d ∷ []) (search reads depth 90) tt

-- ---- the rule
no_zero : {b : Iv} (k : ℕ) → IsBounded b → IsApart b (suc k) → ¬ Holds b zero_ℚ
no_zero {b} k q (inl l) = zero_not_above q (omega (arith, ints, l))
no_zero {b} k q (inr l) = zero_not_below q (omega (arith, ints, l))

-- the spread and two units, times m * m, where t is (1 / m) * m
abbrev scaled_spread : ℚ → ℚ → ℚ → ℚ → ℚ → ℚ
scaled_spread wa sa wb t m = ratio (pos 281474976710656) 1 *ℚ (wa *ℚ t *ℚ m +ℚ sa *ℚ wb *ℚ (t *ℚ t)) +ℚ ratio (pos 2) 1 *ℚ (m *ℚ m)

-- from units to whole numbers, times m * m
limit : (lo hi : ℤ) (n wa sa wb k : ℕ) → pos n ≡ hi -ℤ lo →
    of_int hi ≤ℚ of_int lo +ℚ spread (part_of k) (natural wa) (natural sa) (natural wb) +ℚ ratio (pos 2) 1 →
    n * (suc k * suc k) ≤ wa * 281474976710656 * suc k + sa * wb * 281474976710656 + 2 * (suc k * suc k)
limit lo hi n wa sa wb k e h = of_pos _ _ (le_of_int (rw (left_is, right_is) (le_trans (scaled_up (natural n) (part_of k) (natural (suc k)) (of_width n_is)) (same (unit_ratio k)))))
  where
    n_is : natural n ≡ of_int hi -ℚ of_int lo
    n_is = ap of_int e ∙ of_int_add hi (neg_ℤ lo) ∙ ap (λ t. of_int hi +ℚ t) (of_int_neg lo)

    of_width : natural n ≡ of_int hi -ℚ of_int lo → natural n ≤ℚ spread (part_of k) (natural wa) (natural sa) (natural wb) +ℚ ratio (pos 2) 1
    of_width f = rw f (le_by (of_int lo ∷ of_int hi ∷ part_of k ∷ natural wa ∷ natural sa ∷ natural wb ∷ []) (gap h) (search reads depth 90) tt)

    scaled_up : (x q m : ℚ) → x ≤ℚ spread q (natural wa) (natural sa) (natural wb) +ℚ ratio (pos 2) 1 → x *ℚ (m *ℚ m) ≤ℚ scaled_spread (natural wa) (natural sa) (natural wb) (q *ℚ m) m
    scaled_up x q m f = le_by (x ∷ q ∷ m ∷ natural wa ∷ natural sa ∷ natural wb ∷ []) (gap f ⊗ square m) (search reads depth 90) tt

    same : part_of k *ℚ natural (suc k) ≡ one_ℚ → scaled_spread (natural wa) (natural sa) (natural wb) (part_of k *ℚ natural (suc k)) (natural (suc k)) ≤ℚ
        natural wa *ℚ ratio (pos 281474976710656) 1 *ℚ natural (suc k) +ℚ natural sa *ℚ natural wb *ℚ ratio (pos 281474976710656) 1 +ℚ ratio (pos 2) 1 *ℚ (natural (suc k) *ℚ natural (suc k))
    same f = rw f (le_by (natural (suc k) ∷ natural wa ∷ natural sa ∷ natural wb ∷ []) (known 0 1) (search reads depth 90) tt)

    left_is : natural (n * (suc k * suc k)) ≡ natural n *ℚ (natural (suc k) *ℚ natural (suc k))
    left_is = natural_mul n (suc k * suc k) ∙ ap (λ t. natural n *ℚ t) (natural_mul (suc k) (suc k))

    right_is : natural (wa * 281474976710656 * suc k + sa * wb * 281474976710656 + 2 * (suc k * suc k)) ≡
        natural wa *ℚ ratio (pos 281474976710656) 1 *ℚ natural (suc k) +ℚ natural sa *ℚ natural wb *ℚ ratio (pos 281474976710656) 1 +ℚ ratio (pos 2) 1 *ℚ (natural (suc k) *ℚ natural (suc k))
    right_is = rw (
      natural_add (wa * 281474976710656 * suc k + sa * wb * 281474976710656) (2 * (suc k * suc k)),
      natural_add (wa * 281474976710656 * suc k) (sa * wb * 281474976710656),
      natural_mul (wa * 281474976710656) (suc k),
      natural_mul wa 281474976710656,
      natural_mul (sa * wb) 281474976710656,
      natural_mul sa wb,
      natural_mul 2 (suc k * suc k),
      natural_mul (suc k) (suc k),
      of_int_is (pos 281474976710656),
      of_int_is (pos 2),
    ) refl

    of_pos : (x y : ℕ) → pos x ≤ℤ pos y → x ≤ y
    of_pos x y h = omega (arith, ints)

pub quotient_narrow : {a b v : Iv} → IsQuotient a b v → IsNarrowQuotient (extent_of a) (extent_of b) (extent_of v)
quotient_narrow t zero p = absurd (omega arith)
quotient_narrow {a} {b} {v} t (suc k) p =
    narrow_by v (λ m s. tight_bounded (t.bounded m.0.0.bounded m.0.1.bounded (no_zero k m.0.1.bounded m.1)) s)
    (λ m h. limit v.lo v.hi (width_of v) (width_of a) (size a) (width_of b) k (width_is v)
    (tight_width _ (t.bounded m.0.0.bounded m.0.1.bounded (no_zero k m.0.1.bounded m.1)) h (result_at (holds_low a) (holds_low b)) (quotients_near a b k m.0.0.bounded m.0.1.bounded m.1)))
