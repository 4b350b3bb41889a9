-- A period and a perigee against their limits, by the bounds.
use Rattle.std.proofs.Common.{◌≡◌, arith, [], ◌∷◌, ap, ◌∙◌, ◌^◌, ◌*◌, ◌≤◌, ℕ, ℤ, pos, ◌+ℤ◌, ◌-ℤ◌, ◌≤ℤ◌, ◌<ℤ◌}
use Rattle.std.proofs.lemmas.Int.{ints, by_lt_z}
use Rattle.exact.specs.Rational.{ℚ, ratio, inverse, of_int, ◌+ℚ◌, ◌-ℚ◌, ◌*ℚ◌, ◌/ℚ◌, zero_ℚ, one_ℚ, ◌≤ℚ◌, ◌<ℚ◌}
use Rattle.exact.proofs.RationalRing.{ring, reads}
use Rattle.exact.proofs.Order.{le_by, le_trans, gap, known, ◌⊕◌, ◌⊗◌}
use Rattle.exact.proofs.Integers.{of_int_add, of_int_is, of_int_le, of_int_mul}
use Rattle.exact.proofs.Strict.{lt_by, mul_inverse, positive_known, positive_sum}
use Rattle.fixed_iv.specs.Ends.{in_units, no_high, no_low}
use Rattle.fixed_iv.specs.Extent.{Extent, width_of}
use Rattle.fixed_iv.specs.Holds.{Holds}
use Rattle.fixed_iv.specs.Reach.{IsKnown}
use Rattle.fixed_iv.specs.declared.iv.Iv.{Iv}
use Rattle.fixed_iv.proofs.OuterLemmas.{width_is}
use Rattle.exact.specs.Interval.{Interval}
use Rattle.sgp4_model.specs.Numerals.{decimal, whole}
use Rattle.sgp4_shape.specs.Covering.{unit_minutes}
use Rattle.sgp4_motion.specs.Fate.{low_perigee_km}
use Rattle.sgp4_motion.specs.declared.limits.TheConstants.{LEAST_PERIGEE_KM}
use Rattle.sgp4_motion.proofs.InputLemmas.{inverse_is}

-- ---- a number from the bounds that hold it
at_most_high : {v : Iv} {x : ℚ} (n : ℤ) → Holds v x → v.hi <ℤ n → n ≤ℤ no_high → in_units x +ℚ one_ℚ ≤ℚ of_int n
at_most_high {v} {x} n h k l =
    let e : of_int (v.hi +ℤ pos 1) ≤ℚ of_int n = of_int_le (omega (arith, ints, k)) in
    let f = rw (of_int_add, of_int_is (pos 1)) at e in
    le_by (x ∷ of_int v.hi ∷ of_int n ∷ []) (gap (h.high (omega (arith, ints, k, l))) ⊕ gap f) (search reads depth 90) tt

at_least_low : {v : Iv} {x : ℚ} (n : ℤ) → Holds v x → n ≤ℤ v.lo → no_low <ℤ n → of_int n ≤ℚ in_units x
at_least_low {v} n h k l = le_trans (of_int_le k) (h.low (omega (arith, ints, k, l)))

-- the same by the other end, where the spread is known
at_least_high : {e : Extent} {x : ℚ} {i : Interval} {w : ℕ} (n : ℤ) → IsKnown e x i w → Holds e.ends x → n ≤ℤ e.ends.hi → of_int (n -ℤ pos w) ≤ℚ in_units x
at_least_high {e} {x} {i} {w} n k h l =
    le_trans (of_int_le (from_width e.ends.lo e.ends.hi (width_of e.ends) e.spread (width_is e.ends) k.measured.width k.narrow l)) (h.low k.measured.bounded.low)
  where
    from_width : (lo hi : ℤ) (v s : ℕ) → pos v ≡ hi -ℤ lo → v ≤ s → s ≤ w → n ≤ℤ hi → (n -ℤ pos w) ≤ℤ lo
    from_width lo hi v s p q r l = omega (arith, ints, p, q, r, l)

at_most_low : {e : Extent} {x : ℚ} {i : Interval} {w : ℕ} (n : ℤ) → IsKnown e x i w → Holds e.ends x → e.ends.lo ≤ℤ n → in_units x ≤ℚ of_int (n +ℤ pos w)
at_most_low {e} {x} {i} {w} n k h l =
    le_trans (h.high k.measured.bounded.high) (of_int_le (from_width e.ends.lo e.ends.hi (width_of e.ends) e.spread (width_is e.ends) k.measured.width k.narrow l))
  where
    from_width : (lo hi : ℤ) (v s : ℕ) → pos v ≡ hi -ℤ lo → v ≤ s → s ≤ w → lo ≤ℤ n → hi ≤ℤ (n +ℤ pos w)
    from_width lo hi v s p q r l = omega (arith, ints, p, q, r, l)

-- a number is above the one that the upper end is above, less the spread
above_by_width : {e : Extent} {x : ℚ} {i : Interval} {w : ℕ} (n : ℤ) → IsKnown e x i w → Holds e.ends x → n ≤ℤ e.ends.hi → of_int n ≤ℚ in_units x +ℚ of_int (pos w)
above_by_width {e} {x} {i} {w} n k h l =
    let f = of_int_le (from_width e.ends.lo e.ends.hi (width_of e.ends) e.spread (width_is e.ends) k.measured.width k.narrow l) in
    le_by (x ∷ of_int n ∷ of_int e.ends.lo ∷ of_int (pos w) ∷ []) (gap (rw of_int_add at f) ⊕ gap (h.low k.measured.bounded.low)) (search reads depth 90) tt
  where
    from_width : (lo hi : ℤ) (v s : ℕ) → pos v ≡ hi -ℤ lo → v ≤ s → s ≤ w → n ≤ℤ hi → n ≤ℤ (lo +ℤ pos w)
    from_width lo hi v s p q r l = omega (arith, ints, p, q, r, l)

-- ---- the period
pub period_is : (pi n0 : ℚ) → ¬ (n0 ≡ zero_ℚ) → ¬ (unit_minutes 1 *ℚ n0 ≡ zero_ℚ) → whole 16384 *ℚ (whole 2 *ℚ pi /ℚ (unit_minutes 1 *ℚ n0)) ≡ whole 2 *ℚ pi /ℚ n0
period_is pi n0 h k =
    ap (λ t. whole 16384 *ℚ (whole 2 *ℚ pi *ℚ t)) (inverse_is k one)
    ∙ ring (pi ∷ inverse n0 ∷ []) {y = whole 2 *ℚ pi *ℚ inverse n0} (search reads depth 90) tt
  where
    one : unit_minutes 1 *ℚ n0 *ℚ (ratio (pos 1) 16384 *ℚ inverse n0) ≡ one_ℚ
    one = ring (n0 ∷ inverse n0 ∷ []) {y = n0 *ℚ inverse n0} (search reads depth 90) tt ∙ mul_inverse n0 h

pub period_below : {v : Iv} (x : ℚ) → Holds v x → v.hi <ℤ pos (225 * 2 ^ 34) → whole 16384 *ℚ x <ℚ whole 225
period_below {v} x h k =
    let e = rw (of_int_is (pos 3865470566400)) at (at_most_high (pos 3865470566400) h k (omega (arith, ints))) in
    lt_by (x ∷ []) (positive_sum (positive_known 0 17179869184) (known 1 17179869184 ⊗ gap e)) (search reads depth 90) tt

pub period_from : {e : Extent} {i : Interval} (x : ℚ) → IsKnown e x i 4 → Holds e.ends x → ¬ (e.ends.hi <ℤ pos (225 * 2 ^ 34)) → decimal 224999 3 ≤ℚ whole 16384 *ℚ x
period_from {e} x k h f =
    let l = rw (of_int_is (pos 3865470566396)) at (at_least_high (pos 3865470566400) k h (by_lt_z e.ends.hi (pos 3865470566400) (λ t. absurd (f t)) (λ t. t))) in
    le_by (x ∷ []) (known 1 17179869184 ⊗ gap l ⊕ known 536870787 536870912000) (search reads depth 90) tt

-- ---- the perigee, against a limit of n kilometres
abbrev limit : ℕ → ℤ
limit n = pos (n * 2 ^ 48)

limit_is : (n : ℕ) → of_int (limit n) ≡ whole n *ℚ whole 281474976710656
limit_is n =
    of_int_mul (pos n) (pos 281474976710656)
    ∙ ap (λ t. t *ℚ of_int (pos 281474976710656)) (of_int_is (pos n))
    ∙ ap (λ t. whole n *ℚ t) (of_int_is (pos 281474976710656))

from_units : (y x : ℚ) → y *ℚ whole 281474976710656 ≤ℚ in_units x → y ≤ℚ x
from_units y x h = le_by (y ∷ x ∷ []) (known 1 281474976710656 ⊗ gap h) (search reads depth 90) tt

below_units : (y x : ℚ) → in_units x +ℚ one_ℚ ≤ℚ y *ℚ whole 281474976710656 → x <ℚ y
below_units y x h = lt_by (y ∷ x ∷ []) (positive_sum (positive_known 0 281474976710656) (known 1 281474976710656 ⊗ gap h)) (search reads depth 90) tt

from_next : (y x : ℚ) → y *ℚ whole 281474976710656 ≤ℚ in_units x +ℚ whole 1048576 → y -ℚ decimal 1 3 ≤ℚ x
from_next y x h = le_by (y ∷ x ∷ []) (known 268434456 268435456000 ⊕ known 1 281474976710656 ⊗ gap h) (search reads depth 90) tt

below_next : (y x : ℚ) → in_units x ≤ℚ y *ℚ whole 281474976710656 +ℚ whole 1048576 → x <ℚ y +ℚ decimal 1 3
below_next y x h = lt_by (y ∷ x ∷ []) (positive_sum (positive_known 268434455 268435456000) (known 1 281474976710656 ⊗ gap h)) (search reads depth 90) tt

-- by the ends of the bounds
pub perigee_from : {v : Iv} (n : ℕ) (x : ℚ) → Holds v x → limit n ≤ℤ v.lo → whole n ≤ℚ x
perigee_from {v} n x h k = from_units (whole n) x (rw (limit_is n) at (at_least_low (limit n) h k (omega (arith, ints))))

pub perigee_under : {v : Iv} (n : ℕ) (x : ℚ) → n ≤ 32767 → Holds v x → v.hi <ℤ limit n → x <ℚ whole n
perigee_under {v} n x l h k = below_units (whole n) x (rw (limit_is n) at (at_most_high (limit n) h k (omega (arith, ints, l))))

-- by the other ends, where the spread is known
pub perigee_next_above : {e : Extent} {i : Interval} (n : ℕ) (x : ℚ) → IsKnown e x i (2 ^ 20) → Holds e.ends x → limit n ≤ℤ e.ends.hi → whole n -ℚ decimal 1 3 ≤ℚ x
perigee_next_above n x k h l = from_next (whole n) x (rw (limit_is n, of_int_is (pos 1048576)) at (above_by_width (limit n) k h l))

pub perigee_next_below : {e : Extent} {i : Interval} (n : ℕ) (x : ℚ) → IsKnown e x i (2 ^ 20) → Holds e.ends x → e.ends.lo <ℤ limit n → x <ℚ whole n +ℚ decimal 1 3
perigee_next_below n x k h l = below_next (whole n) x (rw (of_int_add, limit_is n, of_int_is (pos 1048576)) at (at_most_low (limit n) k h (omega (arith, ints, l))))

pub below_limit : (n : ℕ) {lo : ℤ} → ¬ (limit n ≤ℤ lo) → lo <ℤ limit n
below_limit n {lo} f = by_lt_z lo (limit n) (λ t. t) (λ t. absurd (f t))

-- a metre on either side of the limits
pub least_and_a_metre : whole LEAST_PERIGEE_KM +ℚ decimal 1 3 ≡ low_perigee_km
least_and_a_metre = ring [] (search reads depth 90) tt

pub edge_and_a_metre : whole 220 +ℚ decimal 1 3 ≡ decimal 220001 3
edge_and_a_metre = ring [] (search reads depth 90) tt

pub edge_less_a_metre : whole 220 -ℚ decimal 1 3 ≡ decimal 219999 3
edge_less_a_metre = ring [] (search reads depth 90) tt
