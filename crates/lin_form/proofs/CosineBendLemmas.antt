-- The cosine's sum near an angle is its parabola there, up to a sixth of the cube of the step and a little.
use Rattle.std.proofs.Common.{◌≡◌, ◌^◌, [], ◌∷◌, pos}
use Rattle.exact.specs.Rational.{ℚ, ◌+ℚ◌, ◌-ℚ◌, ◌*ℚ◌, neg_ℚ, ratio, zero_ℚ, one_ℚ, ◌≤ℚ◌}
use Rattle.exact.proofs.RationalRing.{ring, reads}
use Rattle.exact.proofs.Intervals.{le_on}
use Rattle.sgp4_model.specs.AngleSums.{factorial, term, sine_sum, cosine_sum}
use Rattle.sgp4_model.specs.Angle.{IsNear, part}
use Rattle.sgp4_model.proofs.Near.{near_neg}
use Rattle.sgp4_model.proofs.Rests.{IsAngle}
use Rattle.lin_form.specs.Bend.{ahead, half_square}
use Rattle.lin_form.proofs.AheadLemmas.{cut_off, near_ahead, near_same}
use Rattle.lin_form.proofs.SineBendLemmas.{angle_box, bow, in_box, last_sine_term_small}

-- the bows of the cosine's powers
unfoldable cosine_bow : ℚ → ℚ → ℚ
cosine_bow y z =
    ratio (pos 1) (factorial 4) *ℚ bow y z 2
    -ℚ ratio (pos 1) (factorial 6) *ℚ bow y z 4 +ℚ ratio (pos 1) (factorial 8) *ℚ bow y z 6
    -ℚ ratio (pos 1) (factorial 10) *ℚ bow y z 8 +ℚ ratio (pos 1) (factorial 12) *ℚ bow y z 10
    -ℚ ratio (pos 1) (factorial 14) *ℚ bow y z 12 +ℚ ratio (pos 1) (factorial 16) *ℚ bow y z 14
    -ℚ ratio (pos 1) (factorial 18) *ℚ bow y z 16

-- the cosine is its parabola and the bow; the parabola has both sums without their last terms
cosine_is_parabola_and_bow : (y z : ℚ) →
    cosine_sum z ≡
    ahead (z -ℚ y) (cosine_sum y) (neg_ℚ (sine_sum y)) +ℚ (z -ℚ y) *ℚ neg_ℚ (term y 19)
    -ℚ half_square (z -ℚ y) *ℚ term y 18 +ℚ (z -ℚ y) *ℚ (z -ℚ y) *ℚ (z -ℚ y) *ℚ cosine_bow y z
unfolding sine_sum cosine_sum cosine_bow
cosine_is_parabola_and_bow y z = ring (y ∷ z ∷ []) (search reads depth 300 fits 99999) tt

-- the bow is at most 1/6 in size
cosine_bow_small : {y z : ℚ} → IsAngle y → IsAngle z → IsNear (ratio (pos 1) 6) (cosine_bow y z) zero_ℚ
unfolding cosine_bow
cosine_bow_small {y} {z} h k = record {
  above = le_on (10 ^ 12) angle_box (y ∷ z ∷ []) (in_box h k) (search reads depth 300 fits 99999) tt;
  below = le_on (10 ^ 12) angle_box (y ∷ z ∷ []) (in_box h k) (search reads depth 300 fits 99999) tt;
}

-- the cosine's last term is at most 2^-58 in size
last_cosine_term_small : {y : ℚ} → IsAngle y → IsNear (part 58) (term y 18) zero_ℚ
last_cosine_term_small {y} h = record {
  above = le_on (10 ^ 60) angle_box (y ∷ y ∷ []) (in_box h h) (search reads depth 90) tt;
  below = le_on (10 ^ 60) angle_box (y ∷ y ∷ []) (in_box h h) (search reads depth 90) tt;
}

-- the cosine at z, from y, where the step is at most b in size
pub cosine_ahead : {b y z : ℚ} → IsAngle y → IsAngle z → IsNear b (z -ℚ y) zero_ℚ → b ≤ℚ one_ℚ →
    IsNear (ratio (pos 1) 6 *ℚ (b *ℚ b *ℚ b) +ℚ cut_off) (cosine_sum z)
    (ahead (z -ℚ y) (cosine_sum y) (neg_ℚ (sine_sum y)))
cosine_ahead {b} {y} {z} h k l m =
    near_ahead _ _ _ _ _ _ (cosine_is_parabola_and_bow y z) (cosine_bow_small h k)
    (near_same zero_ℚ (ring [] (search reads depth 20) tt) (near_neg (last_sine_term_small h)))
    (last_cosine_term_small h) l m
