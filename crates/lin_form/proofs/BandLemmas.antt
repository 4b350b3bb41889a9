-- What the intervals of the parts hold.
use Rattle.std.proofs.Common.{◌≡◌, ◌^◌, arith, subst, [], ◌∷◌, inl, refl, pos, negsuc, ◌≤ℤ◌, ◌<ℤ◌}
use Rattle.std.proofs.lemmas.Int.{ints}
use Rattle.exact.specs.Rational.{ℚ, abs_ℚ, of_int, ratio, ◌+ℚ◌, ◌-ℚ◌, ◌*ℚ◌, neg_ℚ, one_ℚ, zero_ℚ, ◌≤ℚ◌, ◌<ℚ◌}
use Rattle.exact.proofs.RationalRing.{ring, reads}
use Rattle.exact.proofs.Order.{NonNeg, gap, known, le_antisym, le_by, le_of_not_negative, le_refl, le_trans, same_sign, ◌⊕◌, ◌⊗◌}
use Rattle.exact.proofs.Bounds.{abs_le, by_abs, square}
use Rattle.exact.proofs.Integers.{of_int_is, of_int_le}
use Rattle.exact.proofs.Strict.{lt_by, positive_known, positive_sum}
use Rattle.sgp4_model.specs.Angle.{IsNear, part}
use Rattle.fixed_iv.specs.Common.{IsGreater}
use Rattle.fixed_iv.specs.Ends.{in_units}
use Rattle.fixed_iv.specs.Holds.{Holds}
use Rattle.fixed_iv.specs.Place.{Place, on_line}
use Rattle.fixed_iv.specs.declared.iv.Iv.{Iv}
use Rattle.fixed_iv.proofs.CommonLemmas.{units_le}
use Rattle.lin_form.specs.Bend.{IsLeft, half_square, left_over}

-- ---- between held numbers
pub between_held : {v : Iv} {x y z : ℚ} → Holds v x → Holds v y → x ≤ℚ z → z ≤ℚ y → Holds v z
between_held p q f g = record { low = λ s. le_trans (p.low s) (units_le f); high = λ s. le_trans (units_le g) (q.high s) }

-- a mean of two held numbers
mean_held : {v : Iv} {x y : ℚ} (w : ℚ) → NonNeg w → NonNeg (one_ℚ -ℚ w) → Holds v x → Holds v y → Holds v ((one_ℚ -ℚ w) *ℚ x +ℚ w *ℚ y)
mean_held {v} {x} {y} w left right p q = record { low = λ s. low (p.low s) (q.low s); high = λ s. high (p.high s) (q.high s) }
  where
    low : of_int v.lo ≤ℚ in_units x → of_int v.lo ≤ℚ in_units y → of_int v.lo ≤ℚ in_units ((one_ℚ -ℚ w) *ℚ x +ℚ w *ℚ y)
    low f g = le_by (of_int v.lo ∷ x ∷ y ∷ w ∷ []) (right ⊗ gap f ⊕ left ⊗ gap g) (search reads depth 90) tt

    high : in_units x ≤ℚ of_int v.hi → in_units y ≤ℚ of_int v.hi → in_units ((one_ℚ -ℚ w) *ℚ x +ℚ w *ℚ y) ≤ℚ of_int v.hi
    high f g = le_by (of_int v.hi ∷ x ∷ y ∷ w ∷ []) (right ⊗ gap f ⊕ left ⊗ gap g) (search reads depth 90) tt

-- how far along the cell a place is, from 0 to 1
abbrev weight : Place → ℚ
weight h = ratio (pos 1) 2 *ℚ (one_ℚ +ℚ h.at)

weight_low : (h : Place) → NonNeg (weight h)
weight_low h = same_sign (ring (h.at ∷ []) (search reads depth 90) tt) (known 1 2 ⊗ gap h.low)

weight_high : (h : Place) → NonNeg (one_ℚ -ℚ weight h)
weight_high h = same_sign (ring (h.at ∷ []) (search reads depth 90) tt) (known 1 2 ⊗ gap h.high)

-- on the line between two held numbers
pub mean_of_ends : {v : Iv} {x y : ℚ} (h : Place) → Holds v x → Holds v y → Holds v (on_line h x y)
mean_of_ends {v} {x} {y} h p q =
    subst (Holds v) (ring (h.at ∷ x ∷ y ∷ []) {y = on_line h x y} (search reads depth 90) tt) (mean_held (weight h) (weight_low h) (weight_high h) p q)

-- between a number and its negative
pub swept_held : {v : Iv} (h : Place) (s : ℚ) → Holds v s → Holds v (neg_ℚ s) → Holds v (h.at *ℚ s)
swept_held {v} h s p q =
    subst (Holds v) (ring (h.at ∷ s ∷ []) {y = h.at *ℚ s} (search reads depth 90) tt)
    (mean_held (weight h) (weight_low h) (weight_high h) q p)

-- 1 less the square of a place
pub square_below : (h : Place) → NonNeg (one_ℚ -ℚ h.at *ℚ h.at)
square_below h = same_sign (ring (h.at ∷ []) (search reads depth 90) tt) (gap h.low ⊗ gap h.high)

-- between a number and 0
pub bent_held : {v : Iv} (h : Place) (x : ℚ) → Holds v x → Holds v zero_ℚ → Holds v (h.at *ℚ h.at *ℚ x)
bent_held {v} h x p q =
    subst (Holds v) (ring (h.at ∷ x ∷ []) {y = h.at *ℚ h.at *ℚ x} (search reads depth 90) tt)
    (mean_held (h.at *ℚ h.at) (square h.at) (square_below h) q p)

-- ---- numerals
pub half_held : {v : Iv} → v.lo ≡ pos 140737488355328 → v.hi ≡ pos 140737488355328 → Holds v (ratio (pos 1) 2)
half_held e f = record {
  low = λ _. rw (e, of_int_is (pos 140737488355328)) (le_by [] (known 0 1) (search reads depth 90) tt);
  high = λ _. rw (f, of_int_is (pos 140737488355328)) (le_by [] (known 0 1) (search reads depth 90) tt);
}

pub third_held : {v : Iv} → v.lo ≡ pos 93824992236885 → v.hi ≡ pos 93824992236886 → Holds v (ratio (pos 1) 3)
third_held e f = record {
  low = λ _. rw (e, of_int_is (pos 93824992236885)) (le_by [] (known 1 3) (search reads depth 90) tt);
  high = λ _. rw (f, of_int_is (pos 93824992236886)) (le_by [] (known 2 3) (search reads depth 90) tt);
}

pub units_held : {v : Iv} (u : ℚ) → v.lo ≡ negsuc 0 → v.hi ≡ pos 1 → neg_ℚ (part 48) ≤ℚ u → u ≤ℚ part 48 → Holds v u
units_held u e f p q = record {
  low = λ _. rw (e, of_int_is (negsuc 0)) (le_by (u ∷ []) (known 281474976710656 1 ⊗ gap p) (search reads depth 90) tt);
  high = λ _. rw (f, of_int_is (pos 1)) (le_by (u ∷ []) (known 281474976710656 1 ⊗ gap q) (search reads depth 90) tt);
}

pub tolerance_held : {v : Iv} (e : ℚ) → v.lo ≡ negsuc 0 → v.hi ≡ pos 1 → IsNear (part 59) e zero_ℚ → Holds v e
tolerance_held x e f n = record {
  low = λ _. rw (e, of_int_is (negsuc 0)) (le_by (x ∷ []) (known 281474976710656 1 ⊗ gap n.below ⊕ known 2047 2048) (search reads depth 90) tt);
  high = λ _. rw (f, of_int_is (pos 1)) (le_by (x ∷ []) (known 281474976710656 1 ⊗ gap n.above ⊕ known 2047 2048) (search reads depth 90) tt);
}

-- ---- squares
pub square_greater : (x : ℚ) → IsGreater (x *ℚ x) zero_ℚ (x *ℚ x)
square_greater x = record { not_below_left = le_refl (x *ℚ x); not_below_right = le_of_not_negative (square x); is = inl refl }

-- ---- the rest of a turn
pub ends_ordered : neg_ℚ one_ℚ ≤ℚ one_ℚ
ends_ordered = le_by [] (known 2 1) (search reads depth 90) tt

abbrev pub first_place : Place
first_place = record { at = neg_ℚ one_ℚ; low = le_refl (neg_ℚ one_ℚ); high = ends_ordered }

abbrev pub last_place : Place
last_place = record { at = one_ℚ; low = ends_ordered; high = le_refl one_ℚ }

-- one interval has a sixth of the cube of the slope and up to a unit to either side, the other what that sweeps
pub spread_held : {v w : Iv} (s e : ℚ) →
    ((u : ℚ) → neg_ℚ (part 48) ≤ℚ u → u ≤ℚ part 48 → Holds w (ratio (pos 1) 3 *ℚ (half_square s *ℚ s) +ℚ u)) →
    ((m : ℚ) → Holds w m → Holds v (neg_ℚ one_ℚ *ℚ m) × Holds v (one_ℚ *ℚ m)) → IsLeft s e → Holds v e
spread_held {v} {w} s e some both = by_abs (λ b. IsNear (left_over b) e zero_ℚ → Holds v e) s rising falling
  where
    units : neg_ℚ (part 48) ≤ℚ part 48
    units = le_by [] (known 2 (2 ^ 48)) (search reads depth 90) tt

    rising : NonNeg s → IsNear (left_over s) e zero_ℚ → Holds v e
    rising p n =
        let ends = both _ (some (part 48) units (le_refl _)) in
        between_held ends.0 ends.1
        (le_by (s ∷ e ∷ []) (gap n.below ⊕ known 63 (2 ^ 54)) (search reads depth 90) tt)
        (le_by (s ∷ e ∷ []) (gap n.above ⊕ known 63 (2 ^ 54)) (search reads depth 90) tt)

    falling : NonNeg (neg_ℚ s) → IsNear (left_over (neg_ℚ s)) e zero_ℚ → Holds v e
    falling p n =
        let ends = both _ (some (neg_ℚ (part 48)) (le_refl _) units) in
        between_held ends.1 ends.0
        (le_by (s ∷ e ∷ []) (gap n.below ⊕ known 63 (2 ^ 54)) (search reads depth 90) tt)
        (le_by (s ∷ e ∷ []) (gap n.above ⊕ known 63 (2 ^ 54)) (search reads depth 90) tt)

-- the place h of a line with the slope s is within the size of s
pub swept_size : (h : Place) (s : ℚ) → IsNear (abs_ℚ s) (h.at *ℚ s) zero_ℚ
swept_size h s = by_abs (λ b. IsNear b (h.at *ℚ s) zero_ℚ) s rising falling
  where
    rising : NonNeg s → IsNear s (h.at *ℚ s) zero_ℚ
    rising p = record {
      above = le_by (h.at ∷ s ∷ []) (gap h.high ⊗ p) (search reads depth 90) tt;
      below = le_by (h.at ∷ s ∷ []) (gap h.low ⊗ p) (search reads depth 90) tt;
    }

    falling : NonNeg (neg_ℚ s) → IsNear (neg_ℚ s) (h.at *ℚ s) zero_ℚ
    falling p = record {
      above = le_by (h.at ∷ s ∷ []) (gap h.low ⊗ p) (search reads depth 90) tt;
      below = le_by (h.at ∷ s ∷ []) (gap h.high ⊗ p) (search reads depth 90) tt;
    }

-- a slope of at most 1 to either side
pub slow_size : (s : ℚ) → IsNear one_ℚ (one_ℚ *ℚ s) zero_ℚ → abs_ℚ s ≤ℚ one_ℚ
slow_size s n =
    abs_le (le_by (s ∷ []) (gap n.below) (search reads depth 90) tt)
    (le_by (s ∷ []) (gap n.above) (search reads depth 90) tt)

-- ---- signs and sizes of held numbers
pub slow_held : {v : Iv} (h : Place) (s : ℚ) → negsuc 281474976710655 ≤ℤ v.lo → v.hi ≤ℤ pos 281474976710656 → Holds v s → IsNear one_ℚ (h.at *ℚ s) zero_ℚ
slow_held {v} h s p q k = record {
  above = le_by (h.at ∷ s ∷ []) (known 1 2 ⊗ (gap h.high ⊗ least ⊕ gap h.low ⊗ most)) (search reads depth 90) tt;
  below = le_by (h.at ∷ s ∷ []) (known 1 2 ⊗ (gap h.low ⊗ least ⊕ gap h.high ⊗ most)) (search reads depth 90) tt;
}
  where
    low : of_int (negsuc 281474976710655) ≤ℚ in_units s
    low = le_trans (of_int_le p) (k.low (omega (arith, ints, p)))

    high : in_units s ≤ℚ of_int (pos 281474976710656)
    high = le_trans (k.high (omega (arith, ints, q))) (of_int_le q)

    least : NonNeg (s +ℚ one_ℚ)
    least = same_sign (ring (s ∷ []) (search reads depth 90) tt) (known 1 281474976710656 ⊗ gap (rw (of_int_is (negsuc 281474976710655)) at low))

    most : NonNeg (one_ℚ -ℚ s)
    most = same_sign (ring (s ∷ []) (search reads depth 90) tt) (known 1 281474976710656 ⊗ gap (rw (of_int_is (pos 281474976710656)) at high))

pub positive_held : {v : Iv} {x : ℚ} → pos 0 <ℤ v.lo → Holds v x → zero_ℚ <ℚ x
positive_held {v} {x} p k =
    lt_by (x ∷ []) (positive_sum (positive_known 0 281474976710656) (known 1 281474976710656 ⊗ gap (rw (of_int_is (pos 1)) at low))) (search reads depth 90) tt
  where
    low : of_int (pos 1) ≤ℚ in_units x
    low = le_trans (of_int_le (omega (arith, ints, p))) (k.low (omega (arith, ints, p)))

pub zero_held : {v : Iv} {x : ℚ} → v.lo ≡ pos 0 → v.hi ≡ pos 0 → Holds v x → x ≡ zero_ℚ
zero_held {v} {x} e f k =
    le_antisym
    (le_by (x ∷ []) (known 1 281474976710656 ⊗ gap (rw (f, of_int_is (pos 0)) at (k.high (omega (arith, ints, f))))) (search reads depth 90) tt)
    (le_by (x ∷ []) (known 1 281474976710656 ⊗ gap (rw (e, of_int_is (pos 0)) at (k.low (omega (arith, ints, e))))) (search reads depth 90) tt)

-- where one interval lies above another, so do their numbers
pub above_held : {a b : Iv} {x m : ℚ} → b.hi ≤ℤ a.lo → Holds a x → Holds b m → m ≤ℚ x
above_held {a} {b} {x} {m} p k l =
    le_by (x ∷ m ∷ []) (known 1 281474976710656 ⊗ gap (le_trans (l.high (omega (arith, ints, p, a.low_end.most))) (le_trans (of_int_le p) (k.low (omega (arith, ints, p, b.high_end.least)))))) (search reads depth 90) tt
