-- Sines and cosines differ by no more than their angles, the tolerance and a little.
use Rattle.std.proofs.Common.{◌^◌, [], ◌∷◌}
use lib.IntN.{ℤ, pos}
use Rattle.exact.specs.Rational.{ℚ, ◌+ℚ◌, ◌*ℚ◌, neg_ℚ, ratio, of_int, zero_ℚ, ◌≤ℚ◌}
use Rattle.exact.proofs.RationalRing.{reads}
use Rattle.exact.proofs.Order.{◌⊕◌, ◌⊗◌, gap, known, le_by, le_refl}
use Rattle.exact.proofs.Bounds.{by_sign}
use Rattle.exact.proofs.Intervals.{le_on}
use Rattle.sgp4_model.specs.Angle.{IsPi, IsNear, IsSinCos, IsReduced, reduced, part}
use Rattle.sgp4_model.specs.PairLaws.{IsModest, SinePairsAreLipschitz, OneAngleHasOnePair}
use Rattle.sgp4_model.proofs.Near.{near_refl, near_times, near_weaken}
use Rattle.sgp4_model.proofs.Rests.{IsAngle}
use Rattle.sgp4_model.proofs.PairLaws.{IsNearPair, pair_trans, pair_sym, pair_weaken, turned_near}
use Rattle.sgp4_model.proofs.AngleSpan.{reduced_angle}
use Rattle.sgp4_model.proofs.FarQuarters.{pi_above_3}
use Rattle.sgp4_model.proofs.SamePairs.{pair_of_sums, IsPlace, same_pairs}

-- a pair of an angle differs from its sums by at most the tolerance
pub pair_near_sums : {pi x s c : ℚ} (h : IsSinCos pi x s c) → IsNearPair (part 60) (record { sine = s; cosine = c }) (pair_of_sums pi x h.quarters)
pair_near_sums {pi} {x} {s} {c} h =
    rw (h.sine_is, h.cosine_is) (turned_near _ (record { sine = h.sine_near; cosine = h.cosine_near }))

-- two pis differ by at most 10^-36
pis_near : {pi pj : ℚ} → IsPi pi → IsPi pj → IsNear (ratio (pos 1) (10 ^ 36)) pi pj
pis_near {pi} {pj} h k =
    record {
      above = le_by (pi ∷ pj ∷ []) (gap h.high ⊕ gap k.low) (search reads depth 90) tt;
      below = le_by (pi ∷ pj ∷ []) (gap k.high ⊕ gap h.low) (search reads depth 90) tt;
    }

-- a number of turns by at least 3/2 each that come to at most 2^20 + 1
few_turns : (k q : ℚ) → ratio (pos 3) 2 ≤ℚ q → k *ℚ q ≤ℚ ratio (pos 1048577) 1 → k ≤ℚ ratio (pos 1048576) 1
few_turns k q h l =
    by_sign k
    (λ n. le_by (k ∷ q ∷ []) (known 2 3 ⊗ (gap l ⊕ n ⊗ gap h) ⊕ known 1048574 3) (search reads depth 90) tt)
    (λ n. le_by (k ∷ q ∷ []) (n ⊕ known 1048576 1) (search reads depth 90) tt)

-- the same to the other side
few_turns_back : (k q : ℚ) → ratio (pos 3) 2 ≤ℚ q → neg_ℚ (ratio (pos 1048577) 1) ≤ℚ k *ℚ q → neg_ℚ (ratio (pos 1048576) 1) ≤ℚ k
few_turns_back k q h l =
    by_sign k
    (λ n. le_by (k ∷ q ∷ []) (n ⊕ known 1048576 1) (search reads depth 90) tt)
    (λ n. le_by (k ∷ q ∷ []) (known 2 3 ⊗ (gap l ⊕ n ⊗ gap h) ⊕ known 1048574 3) (search reads depth 90) tt)

-- what two pis may do to the quarter turns of an angle up to 2^20
abbrev slip : ℚ
slip = ratio (pos 1048576) 1 *ℚ ratio (pos 1) (10 ^ 36)

-- an allowed number of quarter turns at an angle up to 2^20
place : {pi pj x : ℚ} (k : ℤ) → IsPi pi → IsPi pj → IsModest x → IsReduced pi (reduced pi x k) → IsPlace slip pi pj x k
place {pi} {pj} {x} k h g m r =
    record {
      is_pi = h;
      in_range = r;
      turns = near_times (of_int k)
          (few_turns_back (of_int k) (ratio (pos 1) 2 *ℚ pi) half (le_by (pi ∷ x ∷ of_int k ∷ []) (gap m.low ⊕ gap a.high ⊕ known 1073 5000) (search reads depth 90) tt))
          (few_turns (of_int k) (ratio (pos 1) 2 *ℚ pi) half (le_by (pi ∷ x ∷ of_int k ∷ []) (gap m.high ⊕ gap a.low ⊕ known 1073 5000) (search reads depth 90) tt))
          (pis_near h g);
    }
  where
    a : IsAngle (reduced pi x k)
    a = reduced_angle h r

    half : ratio (pos 3) 2 ≤ℚ ratio (pos 1) 2 *ℚ pi
    half = le_by (pi ∷ []) (known 1 2 ⊗ gap (pi_above_3 h)) (search reads depth 90) tt

-- two pairs, through their sums
pairs : {e d b pi pj x z s c t a : ℚ} (h : IsSinCos pi x s c) (k : IsSinCos pj z t a) → IsNear e pi pj → IsNear d x z →
    IsPlace e pi pj x h.quarters → IsPlace e pj pi z k.quarters → e +ℚ part 66 +ℚ ratio (pos 2) 1 *ℚ part 60 ≤ℚ b →
    IsNear (d +ℚ b) s t × IsNear (d +ℚ b) c a
pairs {e} {d} {b} {pi} {pj} {x} {z} {s} {c} {t} {a} h k p n q r l =
    let both : IsNearPair (d +ℚ b) (record { sine = s; cosine = c }) (record { sine = t; cosine = a }) =
    pair_weaken (le_by (e ∷ d ∷ b ∷ []) (gap l) (search reads depth 90) tt)
    (pair_trans (pair_trans (pair_near_sums h) (same_pairs e d pi pj x z h.quarters k.quarters p n q r)) (pair_sym (pair_near_sums k))) in
    (both.sine, both.cosine)

-- the law for two pis, and angles up to 2^20
pub sine_pairs_are_lipschitz : SinePairsAreLipschitz
sine_pairs_are_lipschitz pi pj x z d s c t a g h m n l p q =
    pairs p q (near_weaken wider (pis_near g h)) l (place p.quarters g h m p.in_range) (place q.quarters h g n q.in_range)
    (le_on (10 ^ 60) [] [] tt (search reads depth 90) tt)
  where
    wider : ratio (pos 1) (10 ^ 36) ≤ℚ slip
    wider = le_by [] (known 1048575 (10 ^ 36)) (search reads depth 90) tt

-- one pi and one angle, of any size
at_home : {pi x : ℚ} (k : ℤ) → IsPi pi → IsReduced pi (reduced pi x k) → IsPlace zero_ℚ pi pi x k
at_home k g r = record { is_pi = g; in_range = r; turns = near_refl _ (le_refl zero_ℚ) }

-- the sums at both allowed numbers of quarter turns differ by at most 2^-66
pub tie_sums : (pi x : ℚ) (j k : ℤ) → IsPi pi → IsReduced pi (reduced pi x j) → IsReduced pi (reduced pi x k) →
    IsNearPair (part 66) (pair_of_sums pi x j) (pair_of_sums pi x k)
tie_sums pi x j k g r q =
    pair_weaken (le_by [] (known 0 1) (search reads depth 90) tt)
    (same_pairs zero_ℚ zero_ℚ pi pi x x j k (near_refl pi (le_refl zero_ℚ)) (near_refl x (le_refl zero_ℚ)) (at_home j g r) (at_home k g q))

-- two pairs of one angle, through their sums
pub one_angle_has_one_pair : OneAngleHasOnePair
one_angle_has_one_pair pi x s c t a g p q =
    let both : IsNearPair (part 66 +ℚ part 59) (record { sine = s; cosine = c }) (record { sine = t; cosine = a }) =
    pair_weaken (le_on (10 ^ 60) [] [] tt (search reads depth 90) tt)
    (pair_trans (pair_trans (pair_near_sums p) (tie_sums pi x p.quarters q.quarters g p.in_range q.in_range)) (pair_sym (pair_near_sums q))) in
    (both.sine, both.cosine)
