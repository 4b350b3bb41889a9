-- Angles whose quarter turns differ by two or more are far apart, so their pairs are near enough.
use Rattle.std.proofs.Common.{[], ◌∷◌, pos, ℕ, ◌^◌}
use Rattle.exact.specs.Rational.{ℚ, ◌+ℚ◌, ◌-ℚ◌, ◌*ℚ◌, neg_ℚ, ratio, one_ℚ, zero_ℚ, ◌≤ℚ◌}
use Rattle.exact.proofs.RationalRing.{reads}
use Rattle.exact.proofs.Order.{◌⊕◌, ◌⊗◌, gap, known, le_by, not_negative}
use Rattle.sgp4_model.specs.AngleSums.{sine_sum, cosine_sum}
use Rattle.sgp4_model.specs.Angle.{IsPi, IsNear, turned, part}
use Rattle.sgp4_model.proofs.Horner.{cosine_neg}
use Rattle.sgp4_model.proofs.CosineLaws.{cosine_low}
use Rattle.sgp4_model.proofs.TieValue.{pi_angle, tie_high}
use Rattle.sgp4_model.proofs.PairLaws.{IsNearPair, pair_trans, pair_sym, pair_weaken, no_pair, turned_near, turned_none}
use Rattle.sgp4_model.proofs.AngleSpan.{sums, IsSpan, first_angle, second_angle, pis_apart, pi_angle_neg, tie_positive, near_cosine, sine_between, sums_small}

-- each pi is above 3
pub pi_above_3 : {pi : ℚ} → IsPi pi → ratio (pos 3) 1 ≤ℚ pi
pi_above_3 {pi} h = le_by (pi ∷ []) (gap h.low ⊕ known 141592653589793238462643383279502884 (10 ^ 36)) (search reads depth 90) tt

-- two quarter turns more: the angles are half a turn apart, less two eighths
eighths : {pi pj d e y z : ℚ} → IsSpan pi pj (ratio (pos 2) 1) d e y z → ratio (pos 1) 4 *ℚ pi +ℚ ratio (pos 1) 4 *ℚ pj ≤ℚ d +ℚ e
eighths {pi} {pj} {d} {e} {y} {z} s =
    le_by (pi ∷ pj ∷ d ∷ e ∷ y ∷ z ∷ []) (gap s.apart.below ⊕ gap s.first.high ⊕ gap s.second.low ⊕ known 1 2 ⊗ gap s.pis.above) (search reads depth 90) tt

-- their cosines together are at most the distance
cosines : {pi pj d e y z : ℚ} → IsSpan pi pj (ratio (pos 2) 1) d e y z → cosine_sum y +ℚ cosine_sum z ≤ℚ d +ℚ e
cosines {pi} {pj} {d} {e} {y} {z} s =
    le_by (pi ∷ pj ∷ d ∷ e ∷ y ∷ z ∷ cosine_sum y ∷ cosine_sum z ∷ cosine_sum (ratio (pos 1) 4 *ℚ pi) ∷ cosine_sum (ratio (pos 1) 4 *ℚ pj) ∷ [])
    (gap (near_cosine (first_angle s) (pi_angle s.first_pi) s.first.high).above ⊕ gap back.below ⊕ gap (tie_high s.first_pi) ⊕ gap (tie_high s.second_pi)
    ⊕ gap s.apart.below ⊕ known 1 4 ⊗ gap s.pis.above ⊕ known 1 4 ⊗ pis_apart s ⊕ known 1 2 ⊗ gap (pi_above_3 s.second_pi) ⊕ known 8578 100000)
    (search reads depth 90) tt
  where
    back : IsNear (z -ℚ neg_ℚ (ratio (pos 1) 4 *ℚ pj)) (cosine_sum (ratio (pos 1) 4 *ℚ pj)) (cosine_sum z)
    back = rw (cosine_neg (ratio (pos 1) 4 *ℚ pj)) at (near_cosine (pi_angle_neg s.second_pi) (second_angle s) s.second.low)

-- two quarter turns more: what the pairs differ by
pub opposite_quarter : {pi pj d e y z : ℚ} → IsSpan pi pj (ratio (pos 2) 1) d e y z → IsNearPair (d +ℚ e +ℚ part 66) (sums y) (turned 1 (turned 1 (sums z)))
unfolding turned
opposite_quarter {pi} {pj} {d} {e} {y} {z} s =
    record {
      sine = record {
        above = le_by (pi ∷ pj ∷ d ∷ e ∷ sine_sum y ∷ sine_sum z ∷ []) (gap first.above ⊕ gap second.above ⊕ gap (eighths s) ⊕ tie_positive) (search reads depth 90) tt;
        below = le_by (pi ∷ pj ∷ d ∷ e ∷ sine_sum y ∷ sine_sum z ∷ []) (gap first.below ⊕ gap second.below ⊕ gap (eighths s) ⊕ tie_positive) (search reads depth 90) tt;
      };
      cosine = record {
        above = le_by (d ∷ e ∷ cosine_sum y ∷ cosine_sum z ∷ []) (gap (cosines s) ⊕ tie_positive) (search reads depth 90) tt;
        below = le_by (d ∷ e ∷ cosine_sum y ∷ cosine_sum z ∷ [])
            (gap (cosine_low (first_angle s)) ⊕ gap (cosine_low (second_angle s)) ⊕ known 69 50 ⊕ not_negative s.size ⊕ pis_apart s ⊕ tie_positive)
            (search reads depth 90) tt;
      };
    }
  where
    first : IsNear (ratio (pos 1) 4 *ℚ pi) (sine_sum y) zero_ℚ
    first = sine_between (first_angle s) s.first.low s.first.high

    second : IsNear (ratio (pos 1) 4 *ℚ pj) (sine_sum z) zero_ℚ
    second = sine_between (second_angle s) s.second.low s.second.high

-- three or more quarter turns more: the angles are more than 2 apart
pub further_quarters : {pi pj n d e y z : ℚ} (j k : ℕ) → ratio (pos 3) 1 ≤ℚ n → IsSpan pi pj n d e y z →
    IsNearPair (d +ℚ e +ℚ part 66) (turned j (sums y)) (turned k (sums z))
further_quarters {pi} {pj} {n} {d} {e} {y} {z} j k l s =
    pair_weaken far (pair_trans (small y j (sums_small (first_angle s))) (pair_sym (small z k (sums_small (second_angle s)))))
  where
    small : (y : ℚ) (k : ℕ) → IsNearPair one_ℚ (sums y) no_pair → IsNearPair one_ℚ (turned k (sums y)) no_pair
    small y k h = rw (turned_none k) at (turned_near k h)

    far : one_ℚ +ℚ one_ℚ ≤ℚ d +ℚ e +ℚ part 66
    far =
        le_by (pi ∷ pj ∷ n ∷ d ∷ e ∷ y ∷ z ∷ [])
        (gap s.apart.below ⊕ gap s.first.high ⊕ gap s.second.low ⊕ gap l ⊗ (known 1 2 ⊗ (gap (pi_above_3 s.second_pi) ⊕ known 3 1))
        ⊕ known 1 4 ⊗ gap s.pis.above ⊕ known 1 4 ⊗ pis_apart s ⊕ gap (pi_above_3 s.second_pi) ⊕ known 1 1 ⊕ tie_positive)
        (search reads depth 90) tt
