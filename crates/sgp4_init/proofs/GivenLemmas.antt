-- What an element set gives: where it lies, and how the code forms it.
use Rattle.std.proofs.Common.{◌≡◌, subst, [], ◌∷◌, ◌^◌, ℤ, pos, negsuc, neg_ℤ, ◌*ℤ◌, unsigned_abs}
use Rattle.exact.specs.Rational.{ℚ, ratio, abs_ℚ, ◌+ℚ◌, ◌*ℚ◌, ◌/ℚ◌, zero_ℚ, ◌≤ℚ◌, ◌<ℚ◌}
use Rattle.exact.proofs.RationalRing.{ring, reads}
use Rattle.exact.proofs.Bounds.{le_of_abs}
use Rattle.exact.proofs.Integers.{of_int_is}
use Rattle.exact.specs.Interval.{Inside, between}
use Rattle.exact.proofs.Intervals.{inside}
use Rattle.exact.proofs.Order.{known, le_by, gap, ◌⊕◌, ◌⊗◌}
use Rattle.exact.proofs.Strict.{Positive, le_of_lt, le_quotient, lt_of_gap, positive_known, quotient_le}
use Rattle.decimals.specs.Decimal.{DecimalRecord, value}
use Rattle.decimals.proofs.UnitsLemmas.{ten_pow_pos}
use Rattle.elements.specs.Elements.{IsFromTo}
use Rattle.fixed_iv.specs.Holds.{IsTightest}
use Rattle.fixed_iv.specs.Results.{IsRatio}
use Rattle.fixed_iv.specs.declared.iv.Iv.{Iv}
use Rattle.sgp4_model.specs.Degrees.{radians}
use Rattle.sgp4_model.specs.Drag.{near_circle}
use Rattle.sgp4_model.specs.Numerals.{decimal, whole}
use Rattle.sgp4_motion.proofs.GivenLemmas.{digits_positive, over_ratio}
use Rattle.sgp4_init.proofs.EquationLemmas.{positive_from}

-- ---- where they lie
pub half_turns_inside : {x : ℚ} → IsFromTo (neg_ℤ (pos 360)) (pos 360) x → Inside (between (negsuc 1) 1 (pos 2) 1) (x *ℚ ratio (pos 1) 180)
half_turns_inside {x} r =
    let low = rw (of_int_is (neg_ℤ (pos 360))) at r.least in
    let high = rw (of_int_is (pos 360)) at r.most in
    inside (negsuc 1) 1 (pos 2) 1 (le_by (x ∷ []) (known 1 180 ⊗ gap low) (search reads depth 90) tt) (le_by (x ∷ []) (known 1 180 ⊗ gap high) (search reads depth 90) tt)

pub drag_inside : (x : ℚ) → abs_ℚ x ≤ℚ decimal 1 3 → Inside (between (negsuc 0) 1000 (pos 1) 1000) (x *ℚ ratio (pos 1) 1)
drag_inside x h =
    let b = le_of_abs h in
    inside (negsuc 0) 1000 (pos 1) 1000 (le_by (x ∷ []) (gap b.0) (search reads depth 90) tt) (le_by (x ∷ []) (gap b.1) (search reads depth 90) tt)

pub perigee_drag_inside : (x : ℚ) → abs_ℚ x ≤ℚ decimal 1 3 → Inside (between (negsuc 4) 1000000 (pos 5) 1000000) (x *ℚ ratio (pos 253881) 54130800)
perigee_drag_inside x h =
    let b = le_of_abs h in
    inside (negsuc 4) 1000000 (pos 5) 1000000
    (le_by (x ∷ []) (known 253881 54130800 ⊗ gap b.0 ⊕ known 16773 54130800000) (search reads depth 90) tt)
    (le_by (x ∷ []) (known 253881 54130800 ⊗ gap b.1 ⊕ known 16773 54130800000) (search reads depth 90) tt)

pub eccentric_positive : {x : ℚ} → near_circle <ℚ x → Positive x
eccentric_positive h = positive_from (positive_known 0 (10 ^ 4)) (le_of_lt h)

pub eccentric_above : {x : ℚ} → near_circle <ℚ x → zero_ℚ <ℚ x
eccentric_above {x} h = lt_of_gap (subst Positive (ring (x ∷ []) (search reads depth 90) tt) (eccentric_positive h))

pub ratio_inside : (x : ℚ) {y : ℚ} → abs_ℚ x ≤ℚ decimal 1 3 → near_circle <ℚ y → Inside (between (negsuc 9) 1 (pos 10) 1) (x /ℚ y)
ratio_inside x {y} h k =
    let b = le_of_abs h in
    inside (negsuc 9) 1 (pos 10) 1
    (le_quotient (eccentric_positive k) (le_by (x ∷ y ∷ []) (gap b.0 ⊕ known 10 1 ⊗ gap (le_of_lt k)) (search reads depth 90) tt))
    (quotient_le (eccentric_positive k) (le_by (x ∷ y ∷ []) (gap b.1 ⊕ known 10 1 ⊗ gap (le_of_lt k)) (search reads depth 90) tt))

-- ---- how they enter
pub angle_is : (pi x : ℚ) → x *ℚ ratio (pos 1) 180 *ℚ pi ≡ radians pi x
angle_is pi x = ring (pi ∷ x ∷ []) (search reads depth 90) tt

pub once_is : (x : ℚ) → x *ℚ ratio (pos 1) 1 ≡ x
once_is x = ring (x ∷ []) (search reads depth 90) tt

pub over_is : {v : Iv} (n d : DecimalRecord) {top bottom : ℤ} → zero_ℚ <ℚ value d → top ≡ n.digits *ℤ pos (10 ^ d.places) → bottom ≡ d.digits *ℤ pos (10 ^ n.places) →
    IsTightest (IsRatio top bottom) v → IsTightest (λ x. x ≡ value n /ℚ value d) v
unfolding value
over_is {v} n d {top} {bottom} p e f t =
    let k : IsTightest (λ x. x ≡ ratio (n.digits *ℤ pos (10 ^ d.places)) (unsigned_abs (d.digits *ℤ pos (10 ^ n.places)))) v = rw (e, f) at t in
    subst (λ y. IsTightest (λ x. x ≡ y) v) (over_ratio n.digits d.digits (10 ^ n.places) (10 ^ d.places) (ten_pow_pos n.places) (ten_pow_pos d.places) (digits_positive d.digits (10 ^ d.places) p)) k

pub twice_is : (x : ℚ) → x +ℚ x ≡ whole 2 *ℚ x
twice_is x = ring (x ∷ []) (search reads depth 90) tt
