-- Where the given numbers of a set lie, and how they enter the equations.
use Rattle.std.proofs.Common.{◌≡◌, [], ◌∷◌, sym, ap, ◌∙◌, pos}
use Rattle.exact.specs.Rational.{ℚ, ratio, inverse, ◌+ℚ◌, ◌-ℚ◌, ◌*ℚ◌, ◌/ℚ◌, zero_ℚ, one_ℚ, ◌≤ℚ◌, ◌<ℚ◌}
use Rattle.exact.proofs.RationalRing.{ring, reads}
use Rattle.exact.proofs.Order.{le_by, gap, known, ◌⊕◌, ◌⊗◌}
use Rattle.exact.proofs.Strict.{Positive, le_quotient, lt_of_gap, mul_inverse, not_zero, positive_known, positive_product, positive_sum, quotient_le}
use Rattle.exact.specs.Interval.{Inside, between}
use Rattle.exact.proofs.Intervals.{inside}
use Rattle.sgp4_model.specs.Angle.{IsPi}
use Rattle.sgp4_model.specs.Degrees.{radians}
use Rattle.sgp4_model.specs.Numerals.{decimal, whole}
use Rattle.sgp4_model.specs.Wgs72.{ke}
use Rattle.sgp4_model.proofs.FarQuarters.{pi_above_3}
use Rattle.sgp4_shape.specs.Covering.{unit_minutes}

-- ---- signs
pub positive_from : {l x : ℚ} → Positive l → l ≤ℚ x → Positive x
positive_from {l} {x} p h = rw (ring (x ∷ l ∷ []) {x = x} {y = l +ℚ (x -ℚ l)} (search reads depth 90) tt) (positive_sum p (gap h))

pub pi_positive : {pi : ℚ} → IsPi pi → Positive pi
pi_positive h = positive_from (positive_known 2 1) (pi_above_3 h)

pub motion_positive : {x : ℚ} → decimal 63 1 ≤ℚ x → Positive x
motion_positive h = positive_from (positive_known 62 10) h

pub above_zero : {x : ℚ} → decimal 63 1 ≤ℚ x → zero_ℚ <ℚ x
above_zero {x} h = lt_of_gap (rw (ring (x ∷ []) {x = x -ℚ zero_ℚ} {y = x} (search reads depth 90) tt) (motion_positive h))

-- ---- ranges
pub eccentricity_inside : {x : ℚ} → zero_ℚ ≤ℚ x → x ≤ℚ decimal 2 1 → Inside (between (pos 0) 1 (pos 2) 10) (x *ℚ ratio (pos 1) 1)
eccentricity_inside {x} l h = inside (pos 0) 1 (pos 2) 10 (le_by (x ∷ []) (gap l) (search reads depth 90) tt) (le_by (x ∷ []) (gap h) (search reads depth 90) tt)

pub inclination_inside : {x : ℚ} → zero_ℚ ≤ℚ x → x ≤ℚ whole 175 → Inside (between (pos 0) 1 (pos 175) 180) (x *ℚ ratio (pos 1) 180)
inclination_inside {x} l h =
    inside (pos 0) 1 (pos 175) 180 (le_by (x ∷ []) (known 1 180 ⊗ gap l) (search reads depth 90) tt) (le_by (x ∷ []) (known 1 180 ⊗ gap h) (search reads depth 90) tt)

pub motion_inside : {x : ℚ} → decimal 63 1 ≤ℚ x → x ≤ℚ whole 17 → Inside (between (pos 14336) 100 (pos 38685) 100) (x *ℚ ratio (pos 1024) 45)
motion_inside {x} l h =
    inside (pos 14336) 100 (pos 38685) 100
    (le_by (x ∷ []) (known 1024 45 ⊗ gap l) (search reads depth 90) tt)
    (le_by (x ∷ []) (known 1024 45 ⊗ gap h ⊕ known 1 180) (search reads depth 90) tt)

pub axis_inside : {x : ℚ} → decimal 63 1 ≤ℚ x → x ≤ℚ whole 17 → Inside (between (pos 31496) 10000 (pos 84991) 10000) (ratio (pos 6693022449) 125000000 /ℚ x)
axis_inside {x} l h =
    inside (pos 31496) 10000 (pos 84991) 10000
    (le_quotient (motion_positive l) (le_by (x ∷ []) (known 31496 10000 ⊗ gap h ⊕ known 122449 125000000) (search reads depth 90) tt))
    (quotient_le (motion_positive l) (le_by (x ∷ []) (known 84991 10000 ⊗ gap l ⊕ known 18801 125000000) (search reads depth 90) tt))

-- ---- how they enter
pub eccentricity_is : (x : ℚ) → x *ℚ ratio (pos 1) 1 ≡ x
eccentricity_is x = ring (x ∷ []) (search reads depth 90) tt

pub inclination_is : (pi x : ℚ) → x *ℚ ratio (pos 1) 180 *ℚ pi ≡ radians pi x
inclination_is pi x = ring (pi ∷ x ∷ []) (search reads depth 90) tt

pub motion_is : (pi x : ℚ) → x *ℚ ratio (pos 1024) 45 *ℚ pi ≡ unit_minutes 1 *ℚ (x *ℚ whole 2 *ℚ pi *ℚ ratio (pos 1) 1440)
motion_is pi x = ring (pi ∷ x ∷ []) (search reads depth 90) tt

-- what gives 1 with x is 1 / x
pub inverse_is : {x y : ℚ} → ¬ (x ≡ zero_ℚ) → x *ℚ y ≡ one_ℚ → inverse x ≡ y
inverse_is {x} {y} h e =
    ring (inverse x ∷ []) {y = inverse x *ℚ one_ℚ} (search reads depth 90) tt
    ∙ ap (λ t. inverse x *ℚ t) (sym e)
    ∙ ring (x ∷ y ∷ inverse x ∷ []) {y = x *ℚ inverse x *ℚ y} (search reads depth 90) tt
    ∙ ap (λ t. t *ℚ y) (mul_inverse x h)
    ∙ ring (y ∷ []) (search reads depth 90) tt

pub axis_is : {pi x : ℚ} → Positive pi → Positive x → ratio (pos 6693022449) 125000000 /ℚ x /ℚ pi ≡ ke /ℚ (x *ℚ whole 2 *ℚ pi *ℚ ratio (pos 1) 1440)
axis_is {pi} {x} p q =
    ring (inverse x ∷ inverse pi ∷ []) {y = ke *ℚ (whole 720 *ℚ inverse x *ℚ inverse pi)} (search reads depth 90) tt
    ∙ ap (λ t. ke *ℚ t) (sym (inverse_is (not_zero both) one))
  where
    both : Positive (x *ℚ whole 2 *ℚ pi *ℚ ratio (pos 1) 1440)
    both = positive_product (positive_product (positive_product q (positive_known 1 1)) p) (positive_known 0 1440)

    one : x *ℚ whole 2 *ℚ pi *ℚ ratio (pos 1) 1440 *ℚ (whole 720 *ℚ inverse x *ℚ inverse pi) ≡ one_ℚ
    one =
        ring (x ∷ pi ∷ inverse x ∷ inverse pi ∷ []) {y = x *ℚ inverse x *ℚ (pi *ℚ inverse pi)} (search reads depth 90) tt
        ∙ ap (λ t. t *ℚ (pi *ℚ inverse pi)) (mul_inverse x (not_zero q))
        ∙ ap (λ t. one_ℚ *ℚ t) (mul_inverse pi (not_zero p))
        ∙ ring [] (search reads depth 90) tt
