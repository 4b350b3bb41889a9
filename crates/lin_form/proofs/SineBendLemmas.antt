-- The sine's sum near an angle is its parabola there, up to a sixth of the cube of the step and a little.
use Rattle.std.proofs.Common.{◌≡◌, ◌^◌, ◌*◌, ◌+◌, ℕ, zero, suc, List, [], ◌∷◌, pos, negsuc}
use Rattle.exact.specs.Interval.{Interval, between}
use Rattle.exact.specs.Rational.{ℚ, ◌+ℚ◌, ◌-ℚ◌, ◌*ℚ◌, ◌^ℚ◌, neg_ℚ, ratio, zero_ℚ, one_ℚ, ◌≤ℚ◌}
use Rattle.exact.proofs.RationalRing.{ring, reads}
use Rattle.exact.proofs.Order.{◌⊕◌, ◌⊗◌, gap, known, le_by, le_of_not_negative}
use Rattle.exact.proofs.Bounds.{square}
use Rattle.exact.proofs.Intervals.{AllInside, inside, le_on}
use Rattle.sgp4_model.specs.AngleSums.{factorial, term, sine_sum, cosine_sum}
use Rattle.sgp4_model.specs.Angle.{IsNear, part}
use Rattle.sgp4_model.proofs.Near.{near_refl, near_weaken}
use Rattle.sgp4_model.proofs.Rests.{IsAngle}
use Rattle.lin_form.specs.Bend.{ahead, half_square}
use Rattle.lin_form.proofs.AheadLemmas.{cut_off, near_ahead}

-- z^(n+2) less its parabola at y, divided by the cube of z - y
abbrev pub bow : ℚ → ℚ → ℕ → ℚ
bow y z zero = zero_ℚ
bow y z (suc n) = z *ℚ bow y z n +ℚ ratio (pos (suc n * suc (suc n))) 2 *ℚ y ^ℚ n

-- from -0.7854 to 0.7854
abbrev range : Interval
range = between (negsuc 3926) 5000 (pos 3927) 5000

-- twice that
abbrev pub angle_box : List Interval
angle_box = range ∷ range ∷ []

-- two angles lie in the box
pub in_box : {y z : ℚ} → IsAngle y → IsAngle z → AllInside angle_box (y ∷ z ∷ [])
in_box h k = (inside _ _ _ _ (low h) h.high, (inside _ _ _ _ (low k) k.high, tt))
  where
    low : {y : ℚ} → IsAngle y → ratio (negsuc 3926) 5000 ≤ℚ y
    low {y} h = le_by (y ∷ []) (gap h.low) (search reads depth 90) tt

-- the sine's last term is at most 2^-63 in size
pub last_sine_term_small : {y : ℚ} → IsAngle y → IsNear (part 63) (term y 19) zero_ℚ
last_sine_term_small {y} h = record {
  above = le_on (10 ^ 60) angle_box (y ∷ y ∷ []) (in_box h h) (search reads depth 90) tt;
  below = le_on (10 ^ 60) angle_box (y ∷ y ∷ []) (in_box h h) (search reads depth 90) tt;
}

-- the bows of the sine's powers
unfoldable sine_bow : ℚ → ℚ → ℚ
sine_bow y z =
    neg_ℚ (ratio (pos 1) (factorial 3) *ℚ bow y z 1) +ℚ ratio (pos 1) (factorial 5) *ℚ bow y z 3
    -ℚ ratio (pos 1) (factorial 7) *ℚ bow y z 5 +ℚ ratio (pos 1) (factorial 9) *ℚ bow y z 7
    -ℚ ratio (pos 1) (factorial 11) *ℚ bow y z 9 +ℚ ratio (pos 1) (factorial 13) *ℚ bow y z 11
    -ℚ ratio (pos 1) (factorial 15) *ℚ bow y z 13 +ℚ ratio (pos 1) (factorial 17) *ℚ bow y z 15
    -ℚ ratio (pos 1) (factorial 19) *ℚ bow y z 17

-- the sine is its parabola and the bow; the parabola has the sine's sum without its last term
sine_is_parabola_and_bow : (y z : ℚ) →
    sine_sum z ≡
    ahead (z -ℚ y) (sine_sum y) (cosine_sum y) +ℚ (z -ℚ y) *ℚ zero_ℚ -ℚ half_square (z -ℚ y) *ℚ term y 19
    +ℚ (z -ℚ y) *ℚ (z -ℚ y) *ℚ (z -ℚ y) *ℚ sine_bow y z
unfolding sine_sum cosine_sum sine_bow
sine_is_parabola_and_bow y z = ring (y ∷ z ∷ []) (search reads depth 300 fits 99999) tt

-- bow y z (n + 3) is y^2 times this and z times z^n * (z + 3 * y)
abbrev with_y : ℚ → ℚ → ℕ → ℚ
with_y y z zero = ratio (pos 6) 1
with_y y z (suc n) = z *ℚ with_y y z n +ℚ ratio (pos ((n + 4) * (n + 5))) 2 *ℚ y ^ℚ (n + 1)

-- the other part
abbrev with_z : ℚ → ℚ → ℕ → ℚ
with_z y z n = z ^ℚ n *ℚ (z +ℚ ratio (pos 3) 1 *ℚ y)

-- what y^2 has as its factor in the bow past degree 2
unfoldable rest_at_y : ℚ → ℚ → ℚ
rest_at_y y z =
    ratio (pos 1) (factorial 7) *ℚ with_y y z 2 -ℚ ratio (pos 1) (factorial 9) *ℚ with_y y z 4
    +ℚ ratio (pos 1) (factorial 11) *ℚ with_y y z 6 -ℚ ratio (pos 1) (factorial 13) *ℚ with_y y z 8
    +ℚ ratio (pos 1) (factorial 15) *ℚ with_y y z 10 -ℚ ratio (pos 1) (factorial 17) *ℚ with_y y z 12
    +ℚ ratio (pos 1) (factorial 19) *ℚ with_y y z 14

-- what z^2 has
unfoldable rest_at_z : ℚ → ℚ → ℚ
rest_at_z y z =
    ratio (pos 1) (factorial 7) *ℚ with_z y z 1 -ℚ ratio (pos 1) (factorial 9) *ℚ with_z y z 3
    +ℚ ratio (pos 1) (factorial 11) *ℚ with_z y z 5 -ℚ ratio (pos 1) (factorial 13) *ℚ with_z y z 7
    +ℚ ratio (pos 1) (factorial 15) *ℚ with_z y z 9 -ℚ ratio (pos 1) (factorial 17) *ℚ with_z y z 11
    +ℚ ratio (pos 1) (factorial 19) *ℚ with_z y z 13

-- the bow by its parts
bow_by_parts : (y z : ℚ) →
    sine_bow y z ≡
    ratio (pos 1) 120 *ℚ (z *ℚ z +ℚ ratio (pos 3) 1 *ℚ (z *ℚ y) +ℚ ratio (pos 6) 1 *ℚ (y *ℚ y))
    -ℚ ratio (pos 1) 6 -ℚ (y *ℚ y *ℚ rest_at_y y z +ℚ z *ℚ z *ℚ rest_at_z y z)
unfolding sine_bow rest_at_y rest_at_z
bow_by_parts y z = ring (y ∷ z ∷ []) (search reads depth 300 fits 99999) tt

module _ {y z : ℚ} (h : IsAngle y) (k : IsAngle z) where
  -- one rest
  rest_at_y_small : rest_at_y y z ≤ℚ ratio (pos 1) 40
  unfolding rest_at_y
  rest_at_y_small = le_on (10 ^ 12) angle_box (y ∷ z ∷ []) (in_box h k) (search reads depth 300 fits 99999) tt

  -- the other one
  rest_at_z_small : rest_at_z y z ≤ℚ ratio (pos 1) 480
  unfolding rest_at_z
  rest_at_z_small = le_on (10 ^ 12) angle_box (y ∷ z ∷ []) (in_box h k) (search reads depth 300 fits 99999) tt

  -- the bow is at most 1/6
  bow_high : sine_bow y z ≤ℚ ratio (pos 1) 6
  unfolding sine_bow
  bow_high = le_on (10 ^ 12) angle_box (y ∷ z ∷ []) (in_box h k) (search reads depth 300 fits 99999) tt

  -- and at least -1/6: its part of degree 2 outweighs the rests
  bow_low : zero_ℚ ≤ℚ sine_bow y z +ℚ ratio (pos 1) 6
  bow_low =
      rw (bow_by_parts y z)
      (le_by (y ∷ z ∷ rest_at_y y z ∷ rest_at_z y z ∷ [])
      (square y ⊗ gap rest_at_y_small ⊕ square z ⊗ gap rest_at_z_small
      ⊕ known 1 160 ⊗ square (z +ℚ ratio (pos 2) 1 *ℚ y))
      (search reads depth 90) tt)

  -- so it is at most 1/6 in size
  sine_bow_small : IsNear (ratio (pos 1) 6) (sine_bow y z) zero_ℚ
  sine_bow_small = record {
    above = le_by (sine_bow y z ∷ []) (gap bow_high) (search reads depth 90) tt;
    below = bow_low;
  }

-- the sine at z, from y, where the step is at most b in size
pub sine_ahead : {b y z : ℚ} → IsAngle y → IsAngle z → IsNear b (z -ℚ y) zero_ℚ → b ≤ℚ one_ℚ →
    IsNear (ratio (pos 1) 6 *ℚ (b *ℚ b *ℚ b) +ℚ cut_off) (sine_sum z) (ahead (z -ℚ y) (sine_sum y) (cosine_sum y))
sine_ahead {b} {y} {z} h k l m =
    near_ahead _ _ _ _ _ _ (sine_is_parabola_and_bow y z) (sine_bow_small h k)
    (near_refl zero_ℚ (le_of_not_negative (known 1 (2 ^ 63)))) (near_weaken smaller (last_sine_term_small h)) l m
  where
    smaller : part 63 ≤ℚ part 58
    smaller = le_on 0 [] [] tt (search reads depth 90) tt
