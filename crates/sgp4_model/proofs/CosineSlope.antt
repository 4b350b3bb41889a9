-- The cosine's sum near an angle is its line there, up to half of the square of the step and a little.
use Rattle.std.proofs.Common.{◌≡◌, ◌^◌, ◌+◌, ℕ, zero, suc, [], ◌∷◌, pos}
use Rattle.exact.specs.Rational.{ℚ, ◌+ℚ◌, ◌-ℚ◌, ◌*ℚ◌, ◌^ℚ◌, ratio, zero_ℚ, ◌≤ℚ◌}
use Rattle.exact.proofs.RationalRing.{ring, reads}
use Rattle.exact.proofs.Order.{◌⊕◌, ◌⊗◌, gap, known, le_by}
use Rattle.exact.proofs.Bounds.{square}
use Rattle.exact.proofs.Intervals.{le_on}
use Rattle.sgp4_model.specs.AngleSums.{factorial, term, sine_sum, cosine_sum}
use Rattle.sgp4_model.specs.Angle.{IsNear, part}
use Rattle.sgp4_model.proofs.Rests.{IsAngle}
use Rattle.sgp4_model.proofs.Bends.{bend}
use Rattle.sgp4_model.proofs.AngleBox.{angle_box, in_box}

-- the bends of the cosine's powers
unfoldable pub cosine_bend : ℚ → ℚ → ℚ
cosine_bend y z =
    ratio (pos 1) (factorial 4) *ℚ bend y z 3
    -ℚ ratio (pos 1) (factorial 6) *ℚ bend y z 5 +ℚ ratio (pos 1) (factorial 8) *ℚ bend y z 7
    -ℚ ratio (pos 1) (factorial 10) *ℚ bend y z 9 +ℚ ratio (pos 1) (factorial 12) *ℚ bend y z 11
    -ℚ ratio (pos 1) (factorial 14) *ℚ bend y z 13 +ℚ ratio (pos 1) (factorial 16) *ℚ bend y z 15
    -ℚ ratio (pos 1) (factorial 18) *ℚ bend y z 17 -ℚ ratio (pos 1) 2

-- the cosine is its line and the bend; the line's slope has the sine's sum without its last term
cosine_is_line_and_bend : (y z : ℚ) →
    cosine_sum z ≡ cosine_sum y -ℚ (z -ℚ y) *ℚ (sine_sum y +ℚ term y 19) +ℚ (z -ℚ y) *ℚ (z -ℚ y) *ℚ cosine_bend y z
unfolding sine_sum cosine_sum cosine_bend
cosine_is_line_and_bend y z = ring (y ∷ z ∷ []) (search reads depth 300 fits 99999) tt

-- bend y z (n + 4) is y^2 times this and z^2 times z^n * (z + 2 * y)
abbrev with_y : ℚ → ℚ → ℕ → ℚ
with_y y z zero = ratio (pos 3) 1 *ℚ z +ℚ ratio (pos 4) 1 *ℚ y
with_y y z (suc n) = z *ℚ with_y y z n +ℚ ratio (pos (n + 5)) 1 *ℚ y ^ℚ (n + 2)

-- the other part
abbrev with_z : ℚ → ℚ → ℕ → ℚ
with_z y z n = z ^ℚ n *ℚ (z +ℚ ratio (pos 2) 1 *ℚ y)

-- what y^2 has as its factor in the bend past degree 2
unfoldable rest_at_y : ℚ → ℚ → ℚ
rest_at_y y z =
    ratio (pos 1) (factorial 6) *ℚ with_y y z 1 -ℚ ratio (pos 1) (factorial 8) *ℚ with_y y z 3
    +ℚ ratio (pos 1) (factorial 10) *ℚ with_y y z 5 -ℚ ratio (pos 1) (factorial 12) *ℚ with_y y z 7
    +ℚ ratio (pos 1) (factorial 14) *ℚ with_y y z 9 -ℚ ratio (pos 1) (factorial 16) *ℚ with_y y z 11
    +ℚ ratio (pos 1) (factorial 18) *ℚ with_y y z 13

-- what z^2 has
unfoldable rest_at_z : ℚ → ℚ → ℚ
rest_at_z y z =
    ratio (pos 1) (factorial 6) *ℚ with_z y z 1 -ℚ ratio (pos 1) (factorial 8) *ℚ with_z y z 3
    +ℚ ratio (pos 1) (factorial 10) *ℚ with_z y z 5 -ℚ ratio (pos 1) (factorial 12) *ℚ with_z y z 7
    +ℚ ratio (pos 1) (factorial 14) *ℚ with_z y z 9 -ℚ ratio (pos 1) (factorial 16) *ℚ with_z y z 11
    +ℚ ratio (pos 1) (factorial 18) *ℚ with_z y z 13

-- the bend by its parts
bend_by_parts : (y z : ℚ) →
    cosine_bend y z ≡
    ratio (pos 1) 24 *ℚ (z *ℚ z +ℚ ratio (pos 2) 1 *ℚ (z *ℚ y) +ℚ ratio (pos 3) 1 *ℚ (y *ℚ y)) -ℚ ratio (pos 1) 2
    -ℚ (y *ℚ y *ℚ rest_at_y y z +ℚ z *ℚ z *ℚ rest_at_z y z)
unfolding cosine_bend rest_at_y rest_at_z
bend_by_parts y z = ring (y ∷ z ∷ []) (search reads depth 300 fits 99999) tt

module _ {y z : ℚ} (h : IsAngle y) (k : IsAngle z) where
  -- both rests are at most 1/48
  rest_at_y_small : rest_at_y y z ≤ℚ ratio (pos 1) 48
  unfolding rest_at_y
  rest_at_y_small = le_on (10 ^ 12) angle_box (y ∷ z ∷ []) (in_box h k) (search reads depth 300 fits 99999) tt

  -- the other one
  rest_at_z_small : rest_at_z y z ≤ℚ ratio (pos 1) 48
  unfolding rest_at_z
  rest_at_z_small = le_on (10 ^ 12) angle_box (y ∷ z ∷ []) (in_box h k) (search reads depth 300 fits 99999) tt

  -- the bend is at most 1/2
  bend_high : cosine_bend y z ≤ℚ ratio (pos 1) 2
  unfolding cosine_bend
  bend_high = le_on (10 ^ 12) angle_box (y ∷ z ∷ []) (in_box h k) (search reads depth 300 fits 99999) tt

  -- and at least -1/2: its part of degree 2 outweighs the rests
  bend_low : zero_ℚ ≤ℚ cosine_bend y z +ℚ ratio (pos 1) 2
  bend_low =
      rw (bend_by_parts y z)
      (le_by (y ∷ z ∷ rest_at_y y z ∷ rest_at_z y z ∷ [])
      (square y ⊗ gap rest_at_y_small ⊕ square z ⊗ gap rest_at_z_small ⊕ known 1 48 ⊗ (square (z +ℚ ratio (pos 2) 1 *ℚ y) ⊕ square y))
      (search reads depth 90) tt)

  -- so it is at most 1/2 in size
  cosine_bend_small : IsNear (ratio (pos 1) 2) (cosine_bend y z) zero_ℚ
  cosine_bend_small =
      record {
        above = le_by (cosine_bend y z ∷ []) (gap bend_high) (search reads depth 90) tt;
        below = bend_low;
      }

-- the sine's last term is at most 2^-63 in size
last_term_small : {y : ℚ} → IsAngle y → IsNear (part 63) (term y 19) zero_ℚ
last_term_small {y} h =
    record {
      above = le_on (10 ^ 60) angle_box (y ∷ y ∷ []) (in_box h h) (search reads depth 90) tt;
      below = le_on (10 ^ 60) angle_box (y ∷ y ∷ []) (in_box h h) (search reads depth 90) tt;
    }

-- a line with a slope that is off by u, and a bend r
near_line : {e a b : ℚ} (c s d u r : ℚ) → a ≡ c -ℚ d *ℚ (s +ℚ u) +ℚ d *ℚ d *ℚ r → IsNear (ratio (pos 1) 2) r zero_ℚ → IsNear e u zero_ℚ → IsNear b d zero_ℚ →
    IsNear (ratio (pos 1) 2 *ℚ (d *ℚ d) +ℚ b *ℚ e) a (c -ℚ d *ℚ s)
near_line {e} {a} {b} c s d u r eq h k l =
    rw eq (record {
      above = le_by (e ∷ c ∷ s ∷ d ∷ b ∷ u ∷ r ∷ [])
          (square d ⊗ gap h.above ⊕ known 1 2 ⊗ (gap l.above ⊗ gap k.above ⊕ gap l.below ⊗ gap k.below)) (search reads depth 90) tt;
      below = le_by (e ∷ c ∷ s ∷ d ∷ b ∷ u ∷ r ∷ [])
          (square d ⊗ gap h.below ⊕ known 1 2 ⊗ (gap l.above ⊗ gap k.below ⊕ gap l.below ⊗ gap k.above)) (search reads depth 90) tt;
    })

-- The cosine at z, from y: where the step is at most b in size.
pub cosine_slope : {b y z : ℚ} → IsAngle y → IsAngle z → IsNear b (z -ℚ y) zero_ℚ →
    IsNear (ratio (pos 1) 2 *ℚ ((z -ℚ y) *ℚ (z -ℚ y)) +ℚ b *ℚ part 63) (cosine_sum z) (cosine_sum y -ℚ (z -ℚ y) *ℚ sine_sum y)
cosine_slope {b} {y} {z} h k l = near_line _ _ _ _ _ (cosine_is_line_and_bend y z) (cosine_bend_small h k) (last_term_small h) l
