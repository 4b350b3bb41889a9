-- The sine's sum near an angle is its line there, up to half of the square of the step.
use Rattle.std.proofs.Common.{◌≡◌, ◌^◌, [], ◌∷◌, pos}
use Rattle.exact.specs.Rational.{ℚ, ◌+ℚ◌, ◌-ℚ◌, ◌*ℚ◌, neg_ℚ, ratio, zero_ℚ}
use Rattle.exact.proofs.RationalRing.{ring, reads}
use Rattle.exact.proofs.Order.{◌⊗◌, gap, le_by}
use Rattle.exact.proofs.Bounds.{square}
use Rattle.exact.proofs.Intervals.{le_on}
use Rattle.sgp4_model.specs.AngleSums.{factorial, sine_sum, cosine_sum}
use Rattle.sgp4_model.specs.Angle.{IsNear}
use Rattle.sgp4_model.proofs.Rests.{IsAngle}
use Rattle.sgp4_model.proofs.Bends.{bend}
use Rattle.sgp4_model.proofs.AngleBox.{angle_box, in_box}

-- the bends of the sine's powers
unfoldable pub sine_bend : ℚ → ℚ → ℚ
sine_bend y z =
    neg_ℚ (ratio (pos 1) (factorial 3) *ℚ bend y z 2) +ℚ ratio (pos 1) (factorial 5) *ℚ bend y z 4
    -ℚ ratio (pos 1) (factorial 7) *ℚ bend y z 6 +ℚ ratio (pos 1) (factorial 9) *ℚ bend y z 8
    -ℚ ratio (pos 1) (factorial 11) *ℚ bend y z 10 +ℚ ratio (pos 1) (factorial 13) *ℚ bend y z 12
    -ℚ ratio (pos 1) (factorial 15) *ℚ bend y z 14 +ℚ ratio (pos 1) (factorial 17) *ℚ bend y z 16
    -ℚ ratio (pos 1) (factorial 19) *ℚ bend y z 18

-- the sine is its line and the bend
sine_is_line_and_bend : (y z : ℚ) → sine_sum z ≡ sine_sum y +ℚ (z -ℚ y) *ℚ cosine_sum y +ℚ (z -ℚ y) *ℚ (z -ℚ y) *ℚ sine_bend y z
unfolding sine_sum cosine_sum sine_bend
sine_is_line_and_bend y z = ring (y ∷ z ∷ []) (search reads depth 300 fits 99999) tt

-- the bend is at most 1/2 in size
sine_bend_small : {y z : ℚ} → IsAngle y → IsAngle z → IsNear (ratio (pos 1) 2) (sine_bend y z) zero_ℚ
unfolding sine_bend
sine_bend_small {y} {z} h k =
    record {
      above = le_on (10 ^ 12) angle_box (y ∷ z ∷ []) (in_box h k) (search reads depth 300 fits 99999) tt;
      below = le_on (10 ^ 12) angle_box (y ∷ z ∷ []) (in_box h k) (search reads depth 300 fits 99999) tt;
    }

-- a line and a bend r
near_line : {a : ℚ} (s c d r : ℚ) → a ≡ s +ℚ d *ℚ c +ℚ d *ℚ d *ℚ r → IsNear (ratio (pos 1) 2) r zero_ℚ → IsNear (ratio (pos 1) 2 *ℚ (d *ℚ d)) a (s +ℚ d *ℚ c)
near_line s c d r eq h =
    rw eq (record {
      above = le_by (s ∷ c ∷ d ∷ r ∷ []) (square d ⊗ gap h.above) (search reads depth 90) tt;
      below = le_by (s ∷ c ∷ d ∷ r ∷ []) (square d ⊗ gap h.below) (search reads depth 90) tt;
    })

-- The sine at z, from y.
pub sine_slope : {y z : ℚ} → IsAngle y → IsAngle z → IsNear (ratio (pos 1) 2 *ℚ ((z -ℚ y) *ℚ (z -ℚ y))) (sine_sum z) (sine_sum y +ℚ (z -ℚ y) *ℚ cosine_sum y)
sine_slope {y} {z} h k = near_line _ _ _ _ (sine_is_line_and_bend y z) (sine_bend_small h k)
