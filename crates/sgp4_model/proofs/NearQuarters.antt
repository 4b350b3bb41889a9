-- Near angles, whose quarter turns are the same or differ by one: their pairs are near.
use Rattle.std.proofs.Common.{[], ◌∷◌, pos}
use Rattle.exact.specs.Rational.{ℚ, ◌+ℚ◌, ◌-ℚ◌, ◌*ℚ◌, neg_ℚ, ratio, one_ℚ, zero_ℚ, ◌≤ℚ◌}
use Rattle.exact.proofs.RationalRing.{reads}
use Rattle.exact.proofs.Order.{◌⊕◌, ◌⊗◌, gap, known, le_by, not_negative}
use Rattle.sgp4_model.specs.AngleSums.{sine_sum, cosine_sum}
use Rattle.sgp4_model.specs.Angle.{IsNear, turned, part}
use Rattle.sgp4_model.proofs.Near.{near_trans, near_sym, near_weaken, near_neg}
use Rattle.sgp4_model.proofs.Horner.{sine_neg, cosine_neg}
use Rattle.sgp4_model.proofs.CosineLaws.{cosine_near}
use Rattle.sgp4_model.proofs.SineLaws.{sine_near}
use Rattle.sgp4_model.proofs.TieValue.{pi_angle, tie_near}
use Rattle.sgp4_model.proofs.PairLaws.{IsNearPair, pair_weaken, neg_neg}
use Rattle.sgp4_model.proofs.AngleSpan.{sums, IsSpan, first_angle, second_angle, pis_apart, pi_angle_neg, tie_positive, near_gap, near_cosine}

-- the same number of quarter turns
pub same_quarter : {pi pj d e y z : ℚ} → IsSpan pi pj zero_ℚ d e y z → IsNearPair (d +ℚ e +ℚ part 66) (sums y) (sums z)
same_quarter {pi} {pj} {d} {e} {y} {z} s =
    pair_weaken (le_by (d ∷ e ∷ []) (known 1 2 ⊗ pis_apart s ⊕ tie_positive) (search reads depth 90) tt)
    (record {
      sine = sine_near (first_angle s) (second_angle s) near;
      cosine = near_weaken (le_by (d ∷ e ∷ []) (known 3 20 ⊗ (not_negative s.size ⊕ known 1 2 ⊗ pis_apart s)) (search reads depth 90) tt)
          (cosine_near (first_angle s) (second_angle s) near);
    })
  where
    near : IsNear (d +ℚ ratio (pos 1) 2 *ℚ e) y z
    near =
        record {
          above = le_by (d ∷ e ∷ y ∷ z ∷ pj ∷ []) (gap s.apart.above) (search reads depth 90) tt;
          below = le_by (d ∷ e ∷ y ∷ z ∷ pj ∷ []) (gap s.apart.below) (search reads depth 90) tt;
        }

-- From y up to pi/4, and from -pj/4 up to z: together at most d + e.
ways : {pi pj d e y z : ℚ} → IsSpan pi pj one_ℚ d e y z →
    ratio (pos 1) 4 *ℚ pi -ℚ y +ℚ part 66 +ℚ (z -ℚ neg_ℚ (ratio (pos 1) 4 *ℚ pj)) ≤ℚ d +ℚ e +ℚ part 66
ways {pi} {pj} {d} {e} {y} {z} s =
    le_by (pi ∷ pj ∷ d ∷ e ∷ y ∷ z ∷ [])
    (gap s.apart.below ⊕ known 1 4 ⊗ gap s.pis.above ⊕ known 1 4 ⊗ pis_apart s) (search reads depth 90) tt

-- one quarter turn more: both angles lie near a tie
pub next_quarter : {pi pj d e y z : ℚ} → IsSpan pi pj one_ℚ d e y z → IsNearPair (d +ℚ e +ℚ part 66) (sums y) (turned 1 (sums z))
unfolding turned
next_quarter {pi} {pj} {d} {e} {y} {z} s =
    record {
      sine = near_weaken (ways s)
          (near_trans (near_trans (sine_near (first_angle s) (pi_angle s.first_pi) (near_gap s.first.high)) (tie_near s.first_pi s.second_pi)) cosine_on);
      cosine = near_weaken (ways s)
          (near_trans (near_trans (near_cosine (first_angle s) (pi_angle s.first_pi) s.first.high) (near_sym (tie_near s.second_pi s.first_pi))) sine_on);
    }
  where
    -- from the tie on to z
    cosine_on : IsNear (z -ℚ neg_ℚ (ratio (pos 1) 4 *ℚ pj)) (cosine_sum (ratio (pos 1) 4 *ℚ pj)) (cosine_sum z)
    cosine_on = rw (cosine_neg (ratio (pos 1) 4 *ℚ pj)) at (near_cosine (pi_angle_neg s.second_pi) (second_angle s) s.second.low)

    sine_on : IsNear (z -ℚ neg_ℚ (ratio (pos 1) 4 *ℚ pj)) (sine_sum (ratio (pos 1) 4 *ℚ pj)) (neg_ℚ (sine_sum z))
    sine_on =
        rw (sine_neg (ratio (pos 1) 4 *ℚ pj), neg_neg (sine_sum (ratio (pos 1) 4 *ℚ pj)))
        at (near_neg (sine_near (pi_angle_neg s.second_pi) (second_angle s) (near_gap s.second.low)))
