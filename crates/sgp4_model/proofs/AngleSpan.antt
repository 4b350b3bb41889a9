-- Two reduced angles, and how far apart the angles are that they come from.
use Rattle.std.proofs.Common.{[], ◌∷◌, pos, ◌^◌}
use Rattle.exact.specs.Rational.{ℚ, ◌+ℚ◌, ◌-ℚ◌, ◌*ℚ◌, neg_ℚ, ratio, one_ℚ, zero_ℚ, ◌≤ℚ◌}
use Rattle.exact.proofs.RationalRing.{reads}
use Rattle.exact.proofs.Order.{NonNeg, ◌⊕◌, ◌⊗◌, gap, known, le_by, not_negative}
use Rattle.sgp4_model.specs.AngleSums.{sine_sum, cosine_sum}
use Rattle.sgp4_model.specs.Angle.{IsPi, IsNear, IsReduced, Pair, part}
use Rattle.sgp4_model.proofs.Near.{near_weaken, near_positive}
use Rattle.sgp4_model.proofs.Rests.{IsAngle}
use Rattle.sgp4_model.proofs.CosineLaws.{cosine_near, cosine_low, cosine_high}
use Rattle.sgp4_model.proofs.SineLaws.{sine_small}
use Rattle.sgp4_model.proofs.TieValue.{pi_angle}
use Rattle.sgp4_model.proofs.PairLaws.{IsNearPair, no_pair}

-- the two sums at an angle
abbrev pub sums : ℚ → Pair
sums y = record { sine = sine_sum y; cosine = cosine_sum y }

-- Reduced angles y and z, by two pis that differ by at most e. The angles that they come from differ by
-- at most d, and e/2 for the pis. The second one has n quarter turns more.
pub record IsSpan (pi pj n d e y z : ℚ) : Type 0 where
  pub first_pi : IsPi pi
  pub second_pi : IsPi pj
  pub pis : IsNear e pi pj
  pub first : IsReduced pi y
  pub second : IsReduced pj z
  pub apart : IsNear (d +ℚ ratio (pos 1) 2 *ℚ e) y (z +ℚ n *ℚ (ratio (pos 1) 2 *ℚ pj))
  pub size : zero_ℚ ≤ℚ d

-- a reduced angle is at most 0.7854
pub reduced_angle : {pi y : ℚ} → IsPi pi → IsReduced pi y → IsAngle y
reduced_angle {pi} {y} h r =
    record {
      low = le_by (pi ∷ y ∷ []) (gap r.low ⊕ gap (pi_angle h).high) (search reads depth 90) tt;
      high = le_by (pi ∷ y ∷ []) (gap r.high ⊕ gap (pi_angle h).high) (search reads depth 90) tt;
    }

-- the other end of an eighth of a turn
pub pi_angle_neg : {pi : ℚ} → IsPi pi → IsAngle (neg_ℚ (ratio (pos 1) 4 *ℚ pi))
pi_angle_neg {pi} h =
    record {
      low = le_by (pi ∷ []) (gap (pi_angle h).high) (search reads depth 90) tt;
      high = le_by (pi ∷ []) (gap (pi_angle h).low) (search reads depth 90) tt;
    }

module _ {pi pj n d e y z : ℚ} where
  -- the first angle is at most 0.7854
  pub first_angle : IsSpan pi pj n d e y z → IsAngle y
  first_angle s = reduced_angle s.first_pi s.first

  -- so is the second angle
  pub second_angle : IsSpan pi pj n d e y z → IsAngle z
  second_angle s = reduced_angle s.second_pi s.second

  -- what the pis differ by is not negative
  pub pis_apart : IsSpan pi pj n d e y z → NonNeg e
  pis_apart s = not_negative (near_positive s.pis)

-- nor is 2^-66
pub tie_positive : NonNeg (part 66)
tie_positive = known 1 (2 ^ 66)

-- an angle and a larger one differ by their difference
pub near_gap : {y z : ℚ} → y ≤ℚ z → IsNear (z -ℚ y) y z
near_gap {y} {z} h =
    record {
      above = le_by (y ∷ z ∷ []) (known 2 1 ⊗ gap h) (search reads depth 90) tt;
      below = le_by (y ∷ z ∷ []) (known 0 1) (search reads depth 90) tt;
    }

-- so do their cosines, at most
pub near_cosine : {y z : ℚ} → IsAngle y → IsAngle z → y ≤ℚ z → IsNear (z -ℚ y) (cosine_sum y) (cosine_sum z)
near_cosine {y} {z} h k l =
    near_weaken (le_by (y ∷ z ∷ []) (known 3 20 ⊗ gap l) (search reads depth 90) tt) (cosine_near h k (near_gap l))

-- the sums at an angle between -b and b
pub sine_between : {y b : ℚ} → IsAngle y → neg_ℚ b ≤ℚ y → y ≤ℚ b → IsNear b (sine_sum y) zero_ℚ
sine_between {y} {b} h low high =
    sine_small h (record {
      above = le_by (y ∷ b ∷ []) (gap high) (search reads depth 90) tt;
      below = le_by (y ∷ b ∷ []) (gap low) (search reads depth 90) tt;
    })

-- the sums at an angle are at most 1 in size
pub sums_small : {y : ℚ} → IsAngle y → IsNearPair one_ℚ (sums y) no_pair
sums_small {y} h =
    record {
      sine = near_weaken (le_by [] (known 1073 5000) (search reads depth 90) tt) (sine_between h h.low h.high);
      cosine = record {
        above = le_by (cosine_sum y ∷ []) (gap (cosine_high h)) (search reads depth 90) tt;
        below = le_by (cosine_sum y ∷ []) (gap (cosine_low h) ⊕ known 169 100) (search reads depth 90) tt;
      };
    }
