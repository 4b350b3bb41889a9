-- The lines of the recovery as the code forms them.
use Rattle.std.proofs.Common.{◌≡◌, [], ◌∷◌, sym, ap, ◌∙◌, ◌^◌, ◌*◌, ◌-◌, pos}
use Rattle.exact.specs.Rational.{ℚ, ratio, inverse, of_int, ◌+ℚ◌, ◌-ℚ◌, ◌*ℚ◌, ◌/ℚ◌, ◌^ℚ◌, zero_ℚ, one_ℚ, ◌≤ℚ◌}
use Rattle.exact.proofs.RationalRing.{ring, reads}
use Rattle.exact.proofs.Order.{le_by, gap, known, ◌⊕◌, ◌⊗◌}
use Rattle.exact.proofs.Bounds.{square}
use Rattle.exact.proofs.Integers.{of_int_is}
use Rattle.exact.proofs.Strict.{mul_inverse}
use Rattle.exact.specs.Interval.{Inside, between}
use Rattle.exact.proofs.Intervals.{inside}
use Rattle.sgp4_model.specs.Angle.{IsNear, IsPi, IsSinCos, part}
use Rattle.sgp4_model.specs.Numerals.{whole}
use Rattle.sgp4_model.specs.Wgs72.{ke}
use Rattle.sgp4_model.proofs.Pythagoras.{sine_pairs_are_bounded}
use Rattle.sgp4_shape.specs.Covering.{unit_minutes}
use Rattle.sgp4_motion.proofs.InputLemmas.{inverse_is}

pub from_0 : {x : ℚ} → of_int (pos 0) ≤ℚ x → zero_ℚ ≤ℚ x
from_0 h = rw (of_int_is (pos 0)) at h

-- ---- squares
pub square_is : (x : ℚ) → x *ℚ x ≡ x ^ℚ 2
square_is x = ring (x ∷ []) (search reads depth 40) tt

pub cosine_square_inside : {pi x s c : ℚ} → IsPi pi → IsSinCos pi x s c → Inside (between (pos 0) 1 (pos 10001) 10000) (c ^ℚ 2)
cosine_square_inside {pi} {x} {s} {c} is_pi pair =
    inside (pos 0) 1 (pos 10001) 10000
    (le_by (c ∷ []) (square c) (search reads depth 90) tt)
    (le_by (c ∷ []) (gap near.above ⊗ gap near.below ⊕ known (2 ^ 120 - 10000 * 2 ^ 61 - 10000) (10000 * 2 ^ 120)) (search reads depth 90) tt)
  where
    near : IsNear (part 60 +ℚ one_ℚ) c zero_ℚ
    near = (sine_pairs_are_bounded pi x s c is_pi pair).1

-- ---- the effect of the second harmonic
pub effect_is : (d a : ℚ) → d /ℚ (a *ℚ a) ≡ d /ℚ a ^ℚ 2
effect_is d a = ap (λ t. d /ℚ t) (square_is a)

pub divides_as_product : (a : ℚ) → ¬ (a ^ℚ 2 ≡ zero_ℚ) → ¬ (a *ℚ a ≡ zero_ℚ)
divides_as_product a h e = h (sym (square_is a) ∙ e)

pub corrected_is : (a d : ℚ) →
    a *ℚ (one_ℚ -ℚ d *ℚ d -ℚ d *ℚ (ratio (pos 1) 3 +ℚ ratio (pos 134) 81 *ℚ (d *ℚ d))) ≡
    a *ℚ (one_ℚ -ℚ d ^ℚ 2 -ℚ d *ℚ (ratio (pos 1) 3 +ℚ whole 134 *ℚ d ^ℚ 2 *ℚ ratio (pos 1) 81))
corrected_is a d = ring (a ∷ d ∷ []) (search reads depth 90) tt

-- ---- the recovered mean motion, and the semimajor axis that belongs to it
pub recovered_is : (n q : ℚ) → unit_minutes 1 *ℚ n /ℚ q ≡ unit_minutes 1 *ℚ (n /ℚ q)
recovered_is n q = ring (n ∷ inverse q ∷ []) (search reads depth 90) tt

pub axis_again : (n q : ℚ) → ¬ (n ≡ zero_ℚ) → ¬ (q ≡ zero_ℚ) → ¬ (n /ℚ q ≡ zero_ℚ) → ke /ℚ n *ℚ q ≡ ke /ℚ (n /ℚ q)
axis_again n q h k l =
    ring (q ∷ inverse n ∷ []) {y = ke *ℚ (inverse n *ℚ q)} (search reads depth 90) tt
    ∙ ap (λ t. ke *ℚ t) (sym (inverse_is l one))
  where
    one : n *ℚ inverse q *ℚ (inverse n *ℚ q) ≡ one_ℚ
    one =
        ring (n ∷ q ∷ inverse n ∷ inverse q ∷ []) {y = n *ℚ inverse n *ℚ (q *ℚ inverse q)} (search reads depth 90) tt
        ∙ ap (λ t. t *ℚ (q *ℚ inverse q)) (mul_inverse n h)
        ∙ ap (λ t. one_ℚ *ℚ t) (mul_inverse q k)
        ∙ ring [] (search reads depth 90) tt

pub divides_at : {x y : ℚ} → x ≡ y → ¬ (x ≡ zero_ℚ) → ¬ (y ≡ zero_ℚ)
divides_at e h k = h (e ∙ k)
