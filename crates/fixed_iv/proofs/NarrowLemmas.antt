-- The tightest interval of an operation's exact results is as narrow as the operation's rule says.
use Rattle.std.proofs.Common.{◌≡◌, refl, arith, [], ◌∷◌, ◌⊎◌, inl, inr, ⊎_elim, ℕ, ◌+◌, ◌*◌, ◌^◌, ◌≤◌, max, ℤ, pos, negsuc, neg_ℤ, ◌+ℤ◌, ◌-ℤ◌, ◌*ℤ◌, ◌≤ℤ◌, unsigned_abs, le_refl}
use Rattle.std.proofs.lemmas.Int.{ints}
use Rattle.std.specs.Int.{int_min, int_max}
use Rattle.exact.specs.Rational.{ℚ, of_int, ratio, ◌+ℚ◌, ◌-ℚ◌, ◌*ℚ◌, neg_ℚ, one_ℚ, ◌≤ℚ◌}
use Rattle.exact.proofs.RationalRing.{ring, reads}
use Rattle.exact.proofs.Order.{gap, known, le_by, le_trans, le_refl as le_refl_ℚ, ◌⊕◌, ◌⊗◌}
use Rattle.exact.proofs.Integers.{of_int_add, of_int_neg, of_int_mul, of_int_is, of_int_le, le_of_int}
use Rattle.fixed_iv.specs.Common.{IsGreaterOf, IsMaximum}
use Rattle.fixed_iv.specs.Ends.{in_units}
use Rattle.fixed_iv.specs.Extent.{AreSmall, IsMeasured, IsNarrow, extent_of, size, width_of}
use Rattle.fixed_iv.specs.Holds.{IsBounded, IsTightest, InEither}
use Rattle.fixed_iv.specs.Narrow.{IsNarrowConstant, IsNarrowSum, IsNarrowDifference, IsNarrowNegative, IsNarrowProduct, IsNarrowLine, IsNarrowGreater, IsOnLine}
use Rattle.fixed_iv.specs.Place.{Place}
use Rattle.fixed_iv.specs.Results.{IsDifference, IsNegative, IsNegativeOf, IsProduct, IsResultOf, IsSum}
use Rattle.fixed_iv.specs.declared.iv.Iv.{Iv}
use Rattle.fixed_iv.proofs.CommonLemmas.{greater_at, units_le}
use Rattle.fixed_iv.proofs.MinMaxLemmas.{greatest_max, least_min}
use Rattle.fixed_iv.proofs.EndLemmas.{at}
use Rattle.fixed_iv.proofs.HoldsLemmas.{holds_low}
use Rattle.fixed_iv.proofs.OuterLemmas.{width_is}
use Rattle.fixed_iv.proofs.SumLemmas.{negative_at, result_at}
use Rattle.fixed_iv.proofs.WidthLemmas.{high_over, low_under, natural, natural_add, natural_mul, sized, sized_difference, sized_product, tight_bounded, tight_width}

pub measured_of : (v : Iv) → IsBounded v → IsMeasured (extent_of v)
measured_of v b = record { bounded = b; width = le_refl (width_of v) }

pub narrow_by : {arguments : Type 0} {exact : ℚ → Type 0} {limit : ℕ → Type 0} (v : Iv) →
    (arguments → AreSmall exact → IsBounded v) → (arguments → IsBounded v → limit (width_of v)) → IsNarrow arguments exact limit (extent_of v)
narrow_by v f g = record { bounded = f; measured = λ _ b. measured_of v b; spread = g }

pub constant_narrow : (v : Iv) → IsNarrowConstant v (extent_of v)
constant_narrow v = narrow_by v (λ b _. b) (λ _ _. le_refl (width_of v))

-- ---- sums, differences, negatives
pub sum_narrow : {a b v : Iv} → IsSum a b v → IsNarrowSum (extent_of a) (extent_of b) (extent_of v)
sum_narrow {a} {b} {v} t =
    narrow_by v (λ _ s. tight_bounded t s)
    (λ m k.
    let l = low_under (a.lo +ℤ b.lo) t k some (low m.0.bounded m.1.bounded) in
    let h = high_over (a.hi +ℤ b.hi) t k some (high m.0.bounded m.1.bounded) in
    omega (arith, ints, l, h, width_is a, width_is b, width_is v))
  where
    some : IsResultOf ◌+ℚ◌ a b (at a.lo +ℚ at b.lo)
    some = result_at (holds_low a) (holds_low b)

    low : IsBounded a → IsBounded b → (y : ℚ) → IsResultOf ◌+ℚ◌ a b y → of_int (a.lo +ℤ b.lo) ≤ℚ in_units y
    low p q y r = rw (r.is, of_int_add) (le_by (of_int a.lo ∷ of_int b.lo ∷ r.left ∷ r.right ∷ []) (gap (r.of_left.low p.low) ⊕ gap (r.of_right.low q.low)) (search reads depth 90) tt)

    high : IsBounded a → IsBounded b → (y : ℚ) → IsResultOf ◌+ℚ◌ a b y → in_units y ≤ℚ of_int (a.hi +ℤ b.hi)
    high p q y r = rw (r.is, of_int_add) (le_by (of_int a.hi ∷ of_int b.hi ∷ r.left ∷ r.right ∷ []) (gap (r.of_left.high p.high) ⊕ gap (r.of_right.high q.high)) (search reads depth 90) tt)

pub difference_narrow : {a b v : Iv} → IsDifference a b v → IsNarrowDifference (extent_of a) (extent_of b) (extent_of v)
difference_narrow {a} {b} {v} t =
    narrow_by v (λ _ s. tight_bounded t s)
    (λ m k.
    let l = low_under (a.lo +ℤ neg_ℤ b.hi) t k some (low m.0.bounded m.1.bounded) in
    let h = high_over (a.hi +ℤ neg_ℤ b.lo) t k some (high m.0.bounded m.1.bounded) in
    omega (arith, ints, l, h, width_is a, width_is b, width_is v))
  where
    some : IsResultOf ◌-ℚ◌ a b (at a.lo -ℚ at b.lo)
    some = result_at (holds_low a) (holds_low b)

    low : IsBounded a → IsBounded b → (y : ℚ) → IsResultOf ◌-ℚ◌ a b y → of_int (a.lo +ℤ neg_ℤ b.hi) ≤ℚ in_units y
    low p q y r = rw (r.is, of_int_add, of_int_neg) (le_by (of_int a.lo ∷ of_int b.hi ∷ r.left ∷ r.right ∷ []) (gap (r.of_left.low p.low) ⊕ gap (r.of_right.high q.high)) (search reads depth 90) tt)

    high : IsBounded a → IsBounded b → (y : ℚ) → IsResultOf ◌-ℚ◌ a b y → in_units y ≤ℚ of_int (a.hi +ℤ neg_ℤ b.lo)
    high p q y r = rw (r.is, of_int_add, of_int_neg) (le_by (of_int a.hi ∷ of_int b.lo ∷ r.left ∷ r.right ∷ []) (gap (r.of_left.high p.high) ⊕ gap (r.of_right.low q.low)) (search reads depth 90) tt)

pub negative_narrow : {a v : Iv} → IsNegative a v → IsNarrowNegative (extent_of a) (extent_of v)
negative_narrow {a} {v} t =
    narrow_by v (λ _ s. tight_bounded t s)
    (λ m k.
    let l = low_under (neg_ℤ a.hi) t k (negative_at (holds_low a)) (low m.bounded) in
    let h = high_over (neg_ℤ a.lo) t k (negative_at (holds_low a)) (high m.bounded) in
    omega (arith, ints, l, h, width_is a, width_is v))
  where
    low : IsBounded a → (y : ℚ) → IsNegativeOf a y → of_int (neg_ℤ a.hi) ≤ℚ in_units y
    low p y r = rw (r.is, of_int_neg) (le_by (of_int a.hi ∷ r.number ∷ []) (gap (r.of_number.high p.high)) (search reads depth 90) tt)

    high : IsBounded a → (y : ℚ) → IsNegativeOf a y → in_units y ≤ℚ of_int (neg_ℤ a.lo)
    high p y r = rw (r.is, of_int_neg) (le_by (of_int a.lo ∷ r.number ∷ []) (gap (r.of_number.low p.low)) (search reads depth 90) tt)

-- ---- products
-- |a| * width b + |b| * width a
abbrev product_spread : Iv → Iv → ℕ
product_spread a b = size a * width_of b + size b * width_of a

products_near : (a b : Iv) → IsBounded a → IsBounded b → (y z : ℚ) → IsResultOf ◌*ℚ◌ a b y → IsResultOf ◌*ℚ◌ a b z →
    in_units y ≤ℚ in_units z +ℚ natural (product_spread a b) *ℚ ratio (pos 1) 281474976710656
products_near a b p q y z r w =
    rw (r.is, w.is, spread_is)
    (le_by (r.left ∷ r.right ∷ w.left ∷ w.right ∷ natural (size a) ∷ natural (size b) ∷ natural (width_of a) ∷ natural (width_of b) ∷ [])
    (known 1 281474976710656 ⊗ (gap (sized_product (sized p r.of_left) (sized_difference q r.of_right w.of_right)) ⊕ gap (sized_product (sized q w.of_right) (sized_difference p r.of_left w.of_left))))
    (search reads depth 90) tt)
  where
    spread_is : natural (product_spread a b) ≡ natural (size a) *ℚ natural (width_of b) +ℚ natural (size b) *ℚ natural (width_of a)
    spread_is = rw (natural_add (size a * width_of b) (size b * width_of a), natural_mul (size a) (width_of b), natural_mul (size b) (width_of a)) refl

pub product_narrow : {a b v : Iv} → IsProduct a b v → IsNarrowProduct (extent_of a) (extent_of b) (extent_of v)
product_narrow {a} {b} {v} t =
    narrow_by v (λ m s. tight_bounded (t.bounded m.0.bounded m.1.bounded) s)
    (λ m k. limit v.lo v.hi (width_of v) (product_spread a b) (width_is v)
    (tight_width _ (t.bounded m.0.bounded m.1.bounded) k (result_at (holds_low a) (holds_low b)) (products_near a b m.0.bounded m.1.bounded)))
  where
    in_parts : (lo hi : ℤ) (s : ℕ) → of_int hi ≤ℚ of_int lo +ℚ natural s *ℚ ratio (pos 1) 281474976710656 +ℚ ratio (pos 2) 1 → (hi *ℤ pos 281474976710656) ≤ℤ (lo *ℤ pos 281474976710656 +ℤ pos s +ℤ pos 562949953421312)
    in_parts lo hi s h =
        le_of_int (rw (of_int_add, of_int_add, of_int_mul, of_int_mul, of_int_is (pos 281474976710656), of_int_is (pos 562949953421312))
        (le_by (of_int lo ∷ of_int hi ∷ natural s ∷ []) (known 281474976710656 1 ⊗ gap h) (search reads depth 90) tt))

    limit : (lo hi : ℤ) (n s : ℕ) → pos n ≡ hi -ℤ lo → of_int hi ≤ℚ of_int lo +ℚ natural s *ℚ ratio (pos 1) 281474976710656 +ℚ ratio (pos 2) 1 → n * 2 ^ 48 ≤ s + 2 * 2 ^ 48
    limit lo hi n s e h = omega (arith, ints, e, in_parts lo hi s h)

-- ---- lines
pub at_most_abs : (n : ℕ) (z : ℤ) → pos n ≤ℤ z → n ≤ unsigned_abs z
at_most_abs n (pos z) h = omega (arith, ints)
at_most_abs n (negsuc z) h = omega (arith, ints)

start : Place
start = record { at = neg_ℚ one_ℚ; low = le_refl_ℚ _; high = le_by [] (known 2 1) (search reads depth 90) tt }

end : Place
end = record { at = one_ℚ; low = le_by [] (known 2 1) (search reads depth 90) tt; high = le_refl_ℚ _ }

-- a number of either interval is on a line, at an end
on_a_line : (a b : Iv) (x : ℚ) → InEither a b x → IsOnLine a b x
unfolding start end
on_a_line a b x (inl h) = record { place = start; start = x; end = at b.lo; of_start = h; of_end = holds_low b; is = ring (x ∷ at b.lo ∷ []) (search reads depth 90) tt }
on_a_line a b x (inr h) = record { place = end; start = at a.lo; end = x; of_start = holds_low a; of_end = h; is = ring (x ∷ at a.lo ∷ []) (search reads depth 90) tt }

pub line_narrow : {a b v : Iv} → IsTightest (InEither a b) v → IsNarrowLine a b (extent_of v)
line_narrow {a} {b} {v} t =
    narrow_by v (λ _ s. tight_bounded t (λ x n. s x (on_a_line a b x n)))
    (λ m k.
    let l = low_under (int_min a.lo b.lo) t k (inl (holds_low a)) (low m.0 m.1) in
    let h = high_over (int_max a.hi b.hi) t k (inl (holds_low a)) (high m.0 m.1) in
    at_most_abs (width_of v) _ (wide v.lo v.hi _ _ (width_of v) (width_is v) l h))
  where
    low : IsBounded a → IsBounded b → (y : ℚ) → InEither a b y → of_int (int_min a.lo b.lo) ≤ℚ in_units y
    low p q y (inl h) = le_trans (of_int_le (least_min a.lo b.lo).left) (h.low p.low)
    low p q y (inr h) = le_trans (of_int_le (least_min a.lo b.lo).right) (h.low q.low)

    high : IsBounded a → IsBounded b → (y : ℚ) → InEither a b y → in_units y ≤ℚ of_int (int_max a.hi b.hi)
    high p q y (inl h) = le_trans (h.high p.high) (of_int_le (greatest_max a.hi b.hi).left)
    high p q y (inr h) = le_trans (h.high q.high) (of_int_le (greatest_max a.hi b.hi).right)

    wide : (lo hi l h : ℤ) (n : ℕ) → pos n ≡ hi -ℤ lo → l ≤ℤ lo → hi ≤ℤ h → pos n ≤ℤ (h -ℤ l)
    wide lo hi l h n e p q = omega (arith, ints)

-- ---- the greater of two numbers
pub greater_narrow : {a b v : Iv} → IsMaximum a b v → IsNarrowGreater (extent_of a) b (extent_of v)
greater_narrow {a} {b} {v} t =
    narrow_by v (λ _ s. tight_bounded t s)
    (λ m k.
    let l = low_under (int_max a.lo b.lo) t k some (low m.0.bounded m.1) in
    let h = high_over (int_max a.hi b.hi) t k some (high m.0.bounded m.1) in
    wide l h (greatest_max a.lo b.lo).left (greatest_max a.lo b.lo).right (greatest_max a.hi b.hi).is)
  where
    some : IsGreaterOf a b (at (int_max a.lo b.lo))
    some = greater_at a b a.lo b.lo (int_max a.lo b.lo) (holds_low a) (holds_low b) (greatest_max a.lo b.lo)

    low : IsBounded a → IsBounded b → (y : ℚ) → IsGreaterOf a b y → of_int (int_max a.lo b.lo) ≤ℚ in_units y
    low p q y r = ⊎_elim
        (λ e. rw e (le_trans (r.of_left.low p.low) (units_le r.is.not_below_left)))
        (λ e. rw e (le_trans (r.of_right.low q.low) (units_le r.is.not_below_right))) (greatest_max a.lo b.lo).is

    high : IsBounded a → IsBounded b → (y : ℚ) → IsGreaterOf a b y → in_units y ≤ℚ of_int (int_max a.hi b.hi)
    high p q y r = ⊎_elim
        (λ e. rw e (le_trans (r.of_left.high p.high) (of_int_le (greatest_max a.hi b.hi).left)))
        (λ e. rw e (le_trans (r.of_right.high q.high) (of_int_le (greatest_max a.hi b.hi).right))) r.is.is

    wide : {low high : ℤ} → low ≤ℤ v.lo → v.hi ≤ℤ high → a.lo ≤ℤ low → b.lo ≤ℤ low → (high ≡ a.hi) ⊎ (high ≡ b.hi) → width_of v ≤ max (width_of a) (width_of b)
    wide l h p q (inl e) = omega (arith, ints, l, h, p, e, width_is a, width_is v)
    wide l h p q (inr e) = omega (arith, ints, l, h, q, e, width_is b, width_is v)
