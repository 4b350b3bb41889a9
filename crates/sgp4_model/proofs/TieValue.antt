-- At an eighth of a turn the two sums are equal, to 2^-66.
use Rattle.std.proofs.Common.{◌*◌, ◌^◌, [], ◌∷◌, pos}
use Rattle.exact.specs.Rational.{ℚ, ◌+ℚ◌, ◌-ℚ◌, ◌*ℚ◌, ratio, ◌≤ℚ◌}
use Rattle.exact.proofs.RationalRing.{reads}
use Rattle.exact.proofs.Order.{◌⊕◌, ◌⊗◌, gap, known, le_by}
use Rattle.exact.proofs.Intervals.{le_on}
use Rattle.sgp4_model.specs.Angle.{IsPi, IsNear, part, least_pi}
use Rattle.sgp4_model.specs.AngleSums.{sine_sum, cosine_sum}
use Rattle.sgp4_model.proofs.Near.{near_trans, near_weaken, near_sym}
use Rattle.sgp4_model.proofs.Rests.{IsAngle}
use Rattle.sgp4_model.proofs.CosineLaws.{cosine_near}
use Rattle.sgp4_model.proofs.SineLaws.{sine_near}

-- pi / 4, to 22 decimals
abbrev eighth : ℚ
eighth = ratio (pos 7853981633974483096157) (10 ^ 22)

-- it is an angle of at most 0.7854
eighth_angle : IsAngle eighth
eighth_angle = record { low = le_on 0 [] [] tt (search reads depth 90) tt; high = le_on 0 [] [] tt (search reads depth 90) tt }

-- an eighth of a turn, for each pi
pub pi_angle : {pi : ℚ} → IsPi pi → IsAngle (ratio (pos 1) 4 *ℚ pi)
pi_angle {pi} h =
    record {
      low = le_by (pi ∷ []) (known 1 4 ⊗ gap h.low ⊕ (known 3141592653589793238462643383279502884 (4 * 10 ^ 36) ⊕ known 3927 5000)) (search reads depth 90) tt;
      high = le_by (pi ∷ []) (known 1 4 ⊗ gap h.high ⊕ known 7346410206761537356616720497115 (4 * 10 ^ 36)) (search reads depth 90) tt;
    }

-- a quarter of each pi differs from it by at most 10^-22
pi_near : {pi : ℚ} → IsPi pi → IsNear (ratio (pos 1) (10 ^ 22)) (ratio (pos 1) 4 *ℚ pi) eighth
pi_near {pi} h =
    record {
      above = le_by (pi ∷ []) (known 1 4 ⊗ gap h.high ⊕ gap high_end) (search reads depth 90) tt;
      below = le_by (pi ∷ []) (known 1 4 ⊗ gap h.low ⊕ gap low_end) (search reads depth 90) tt;
    }
  where
    high_end : ratio (pos 1) 4 *ℚ (least_pi +ℚ ratio (pos 1) (10 ^ 36)) ≤ℚ eighth +ℚ ratio (pos 1) (10 ^ 22)
    high_end = le_on (10 ^ 60) [] [] tt (search reads depth 90) tt

    low_end : eighth ≤ℚ ratio (pos 1) 4 *ℚ least_pi +ℚ ratio (pos 1) (10 ^ 22)
    low_end = le_on (10 ^ 60) [] [] tt (search reads depth 90) tt

-- the two sums there, to 2^-66 less 2 * 10^-22
sums_near : IsNear (part 66 -ℚ ratio (pos 2) (10 ^ 22)) (sine_sum eighth) (cosine_sum eighth)
unfolding sine_sum cosine_sum
sums_near = record { above = le_on (10 ^ 60) [] [] tt (search reads depth 90) tt; below = le_on (10 ^ 60) [] [] tt (search reads depth 90) tt }

-- the sine and the cosine of an eighth of a turn, perhaps of two pis
pub tie_near : {pi pj : ℚ} → IsPi pi → IsPi pj → IsNear (part 66) (sine_sum (ratio (pos 1) 4 *ℚ pi)) (cosine_sum (ratio (pos 1) 4 *ℚ pj))
tie_near {pi} {pj} h k =
    near_weaken (le_on 0 [] [] tt (search reads depth 90) tt)
    (near_trans (near_trans (sine_near (pi_angle h) eighth_angle (pi_near h)) sums_near) (near_sym (cosine_near (pi_angle k) eighth_angle (pi_near k))))

-- the cosine of an eighth of a turn
cosine_at_eighth : cosine_sum eighth ≤ℚ ratio (pos 707109) 1000000
unfolding cosine_sum
cosine_at_eighth = le_on (10 ^ 60) [] [] tt (search reads depth 90) tt

-- the cosine at a quarter of each pi
pub tie_high : {pi : ℚ} → IsPi pi → cosine_sum (ratio (pos 1) 4 *ℚ pi) ≤ℚ ratio (pos 70711) 100000
tie_high {pi} h = le_by (cosine_sum (ratio (pos 1) 4 *ℚ pi) ∷ cosine_sum eighth ∷ [])
    (gap (cosine_near (pi_angle h) eighth_angle (pi_near h)).above ⊕ gap cosine_at_eighth ⊕ gap rest)
    (search reads depth 90) tt
  where
    rest : ratio (pos 707109) 1000000 +ℚ ratio (pos 17) 20 *ℚ ratio (pos 1) (10 ^ 22) ≤ℚ ratio (pos 70711) 100000
    rest = le_on 0 [] [] tt (search reads depth 90) tt

-- the sine there
pub tie_sine_high : {pi : ℚ} → IsPi pi → sine_sum (ratio (pos 1) 4 *ℚ pi) ≤ℚ ratio (pos 70711) 100000
tie_sine_high {pi} h =
    le_by (sine_sum (ratio (pos 1) 4 *ℚ pi) ∷ cosine_sum (ratio (pos 1) 4 *ℚ pi) ∷ cosine_sum eighth ∷ [])
    (gap (tie_near h h).above ⊕ gap (cosine_near (pi_angle h) eighth_angle (pi_near h)).above ⊕ gap cosine_at_eighth ⊕ gap rest)
    (search reads depth 90) tt
  where
    rest : ratio (pos 707109) 1000000 +ℚ ratio (pos 17) 20 *ℚ ratio (pos 1) (10 ^ 22) +ℚ part 66 ≤ℚ ratio (pos 70711) 100000
    rest = le_on 0 [] [] tt (search reads depth 90) tt
