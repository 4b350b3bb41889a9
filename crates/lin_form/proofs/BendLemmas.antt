-- The sines and cosines of two angles that are at most 1 apart follow their bend.
use Rattle.std.proofs.Common.{◌≡◌, ◌^◌, arith, ℕ, zero, suc, [], ◌∷◌, ⊎_elim, ap, ◌∙◌, refl, subst, sym}
use Rattle.std.proofs.lemmas.Int.{ints}
use lib.IntN.{ℤ, pos, ◌+ℤ◌}
use Rattle.exact.specs.Rational.{ℚ, ◌+ℚ◌, ◌-ℚ◌, ◌*ℚ◌, neg_ℚ, ratio, of_int, one_ℚ, zero_ℚ, ◌≤ℚ◌}
use Rattle.exact.proofs.RationalRing.{ring, reads}
use Rattle.exact.proofs.Order.{gap, known, le_by}
use Rattle.exact.proofs.Integers.{of_int_add, of_int_le, of_int_is}
use Rattle.exact.proofs.Intervals.{le_on}
use Rattle.sgp4_model.specs.AngleSums.{sine_sum, cosine_sum}
use Rattle.sgp4_model.specs.Angle.{IsNear, IsReduced, part, quadrant, reduced, turned}
use Rattle.sgp4_model.proofs.Near.{near_weaken}
use Rattle.sgp4_model.proofs.Rests.{IsAngle}
use Rattle.sgp4_model.proofs.Horner.{sine_neg, cosine_neg}
use Rattle.sgp4_model.proofs.PairLaws.{turned_next, ordered}
use Rattle.sgp4_model.proofs.AngleSpan.{sums, reduced_angle}
use Rattle.sgp4_model.proofs.SamePairs.{pair_of_sums}
use Rattle.sgp4_model.proofs.Lipschitz.{pair_near_sums}
use Rattle.sgp4_model.proofs.TieSlope.{way_on}
use Rattle.sgp4_model.proofs.Quarters.{IsStep, far_on, far_back}
use Rattle.lin_form.specs.Bend.{PairsFollowTheirBend, left_over}
use Rattle.lin_form.proofs.SineBendLemmas.{sine_ahead}
use Rattle.lin_form.proofs.CosineBendLemmas.{cosine_ahead}
use Rattle.lin_form.proofs.OnBendLemmas.{IsOnBend, bend_weaken, near_on_bend, turned_on_bend}
use Rattle.lin_form.proofs.TieBendLemmas.{next_bend, spare}

module _ {pi b d y z : ℚ} (h : IsStep pi b d y z) where
  -- the same number of quarter turns
  same_quarter : d ≡ z -ℚ y → IsOnBend (spare b) d (sums y) (sums z)
  same_quarter e = rw e (record {
    sine = near_weaken less (sine_ahead first second size h.short);
    cosine = near_weaken less (cosine_ahead first second size h.short);
  })
    where
      first : IsAngle y
      first = reduced_angle h.is_pi h.first

      second : IsAngle z
      second = reduced_angle h.is_pi h.second

      size : IsNear b (z -ℚ y) zero_ℚ
      size = subst (λ t. IsNear b t zero_ℚ) e h.size

      less : ratio (pos 1) 6 *ℚ (b *ℚ b *ℚ b) +ℚ part 58 ≤ℚ spare b
      less = le_by (b ∷ []) (known 3 (2 ^ 58)) (search reads depth 90) tt

  -- one more
  next_quarter : d ≡ way_on pi y z → IsOnBend (spare b) d (sums y) (turned 1 (sums z))
  next_quarter e = rw e (next_bend h.is_pi h.first h.second (subst (λ t. t ≤ℚ b) e at_most) h.short)
    where
      at_most : d ≤ℚ b
      at_most = le_by (b ∷ d ∷ []) (gap h.size.above) (search reads depth 90) tt

-- the opposite of a reduced angle is one
mirrored_range : {pi y : ℚ} → IsReduced pi y → IsReduced pi (neg_ℚ y)
mirrored_range {pi} {y} h = record {
  low = le_by (pi ∷ y ∷ []) (gap h.high) (search reads depth 90) tt;
  high = le_by (pi ∷ y ∷ []) (gap h.low) (search reads depth 90) tt;
}

-- a step of opposite angles is one back
mirrored_step : {pi b d y z : ℚ} → IsStep pi b d y z → IsStep pi b (neg_ℚ d) (neg_ℚ y) (neg_ℚ z)
mirrored_step {pi} {b} {d} {y} {z} h = record {
  is_pi = h.is_pi;
  first = mirrored_range h.first;
  second = mirrored_range h.second;
  size = record {
    above = le_by (b ∷ d ∷ []) (gap h.size.below) (search reads depth 90) tt;
    below = le_by (b ∷ d ∷ []) (gap h.size.above) (search reads depth 90) tt;
  };
  short = h.short;
}

-- pairs (-s, c) and (a, t) on the bend, mirrored
mirrored_bend : (e d s c t a : ℚ) →
    IsOnBend e (neg_ℚ d) (record { sine = neg_ℚ s; cosine = c }) (turned 1 (record { sine = neg_ℚ t; cosine = a })) →
    IsOnBend e d (turned 1 (record { sine = s; cosine = c })) (record { sine = t; cosine = a })
unfolding turned
mirrored_bend e d s c t a h = record {
  sine = record {
    above = le_by (e ∷ d ∷ s ∷ c ∷ t ∷ []) (gap h.cosine.above) (search reads depth 90) tt;
    below = le_by (e ∷ d ∷ s ∷ c ∷ t ∷ []) (gap h.cosine.below) (search reads depth 90) tt;
  };
  cosine = record {
    above = le_by (e ∷ d ∷ s ∷ c ∷ a ∷ []) (gap h.sine.above) (search reads depth 90) tt;
    below = le_by (e ∷ d ∷ s ∷ c ∷ a ∷ []) (gap h.sine.below) (search reads depth 90) tt;
  };
}

-- the sums of the opposite angle
sums_neg : (y : ℚ) → sums (neg_ℚ y) ≡ record { sine = neg_ℚ (sine_sum y); cosine = cosine_sum y }
sums_neg y = rw (sine_neg y, cosine_neg y) refl

-- one quarter turn less: by the opposite angles
last_quarter : {pi b d y z : ℚ} → IsStep pi b d y z → neg_ℚ d ≡ way_on pi (neg_ℚ y) (neg_ℚ z) →
    IsOnBend (spare b) d (turned 1 (sums y)) (sums z)
last_quarter {pi} {b} {d} {y} {z} h e =
    mirrored_bend (spare b) d (sine_sum y) (cosine_sum y) (sine_sum z) (cosine_sum z)
    (rw (sums_neg y, sums_neg z) at (next_quarter (mirrored_step h) e))

-- two and more are at least 2
at_least_2 : (n : ℕ) → ratio (pos 2) 1 ≤ℚ of_int (pos (suc (suc n)))
at_least_2 n = rw (of_int_is (pos 2)) at (of_int_le {a = pos 2} {b = pos (suc (suc n))} (omega (arith, ints)))

-- no quarter turn more is the same number of them
no_more : (k : ℤ) → k +ℤ pos 0 ≡ k
no_more k = omega (arith, ints)

-- the step, from the reduced angles: the second has n quarter turns more
step_on : (pi x d : ℚ) (k : ℤ) (n : ℕ) →
    d ≡ reduced pi (x +ℚ d) (k +ℤ pos n) -ℚ reduced pi x k +ℚ of_int (pos n) *ℚ (ratio (pos 1) 2 *ℚ pi)
step_on pi x d k n =
    rw (of_int_add k (pos n)) (ring (pi ∷ x ∷ d ∷ of_int k ∷ of_int (pos n) ∷ []) (search reads depth 90) tt)

-- or less
step_back : (pi x d : ℚ) (k : ℤ) (n : ℕ) →
    d ≡ reduced pi (x +ℚ d) k -ℚ reduced pi x (k +ℤ pos n) -ℚ of_int (pos n) *ℚ (ratio (pos 1) 2 *ℚ pi)
step_back pi x d k n =
    rw (of_int_add k (pos n)) (ring (pi ∷ x ∷ d ∷ of_int k ∷ of_int (pos n) ∷ []) (search reads depth 90) tt)

-- the step, where it has no quarter turn
none_on : {d : ℚ} (y z p : ℚ) → d ≡ z -ℚ y +ℚ of_int (pos 0) *ℚ p → d ≡ z -ℚ y
none_on {d} y z p e = (rw (of_int_is (pos 0)) at e) ∙ ring (y ∷ z ∷ p ∷ []) (search reads depth 90) tt

-- the same, less none
none_back : {d : ℚ} (y z p : ℚ) → d ≡ z -ℚ y -ℚ of_int (pos 0) *ℚ p → d ≡ z -ℚ y
none_back {d} y z p e = (rw (of_int_is (pos 0)) at e) ∙ ring (y ∷ z ∷ p ∷ []) (search reads depth 90) tt

-- where it has one
one_on : {d : ℚ} (y z pi : ℚ) → d ≡ z -ℚ y +ℚ of_int (pos 1) *ℚ (ratio (pos 1) 2 *ℚ pi) → d ≡ way_on pi y z
one_on {d} y z pi e = (rw (of_int_is (pos 1)) at e) ∙ ring (y ∷ z ∷ pi ∷ []) (search reads depth 90) tt

-- where it has one less
one_back : {d : ℚ} (y z pi : ℚ) → d ≡ z -ℚ y -ℚ of_int (pos 1) *ℚ (ratio (pos 1) 2 *ℚ pi) →
    neg_ℚ d ≡ way_on pi (neg_ℚ y) (neg_ℚ z)
one_back {d} y z pi e = ap neg_ℚ (rw (of_int_is (pos 1)) at e) ∙ ring (y ∷ z ∷ pi ∷ []) (search reads depth 90) tt

module _ (pi b x d : ℚ) where
  -- the second angle has n quarter turns more
  on : (k : ℤ) (n : ℕ) → IsStep pi b d (reduced pi x k) (reduced pi (x +ℚ d) (k +ℤ pos n)) →
      IsOnBend (spare b) d (pair_of_sums pi x k) (pair_of_sums pi (x +ℚ d) (k +ℤ pos n))
  on k zero h =
      rw (ap quadrant (no_more k))
      (turned_on_bend (quadrant k) (same_quarter h (none_on _ _ _ (step_on pi x d k 0))))
  on k (suc zero) h =
      rw (turned_next k (sums (reduced pi (x +ℚ d) (k +ℤ pos 1))))
      (turned_on_bend (quadrant k) (next_quarter h (one_on _ _ _ (step_on pi x d k 1))))
  on k (suc (suc n)) h = absurd (far_on h (at_least_2 n) (step_on pi x d k (suc (suc n))))

  -- or less
  back : (k : ℤ) (n : ℕ) → IsStep pi b d (reduced pi x (k +ℤ pos n)) (reduced pi (x +ℚ d) k) →
      IsOnBend (spare b) d (pair_of_sums pi x (k +ℤ pos n)) (pair_of_sums pi (x +ℚ d) k)
  back k zero h =
      rw (ap quadrant (no_more k))
      (turned_on_bend (quadrant k) (same_quarter h (none_back _ _ _ (step_back pi x d k 0))))
  back k (suc zero) h =
      rw (turned_next k (sums (reduced pi x (k +ℤ pos 1))))
      (turned_on_bend (quadrant k) (last_quarter h (one_back _ _ _ (step_back pi x d k 1))))
  back k (suc (suc n)) h = absurd (far_back h (at_least_2 n) (step_back pi x d k (suc (suc n))))

  -- with any allowed quarter turns
  sums_bend : (j k : ℤ) → IsStep pi b d (reduced pi x j) (reduced pi (x +ℚ d) k) →
      IsOnBend (spare b) d (pair_of_sums pi x j) (pair_of_sums pi (x +ℚ d) k)
  sums_bend j k h =
      ⊎_elim
      (λ m. subst (λ q. IsStep pi b d (reduced pi x j) (reduced pi (x +ℚ d) q) →
      IsOnBend (spare b) d (pair_of_sums pi x j) (pair_of_sums pi (x +ℚ d) q))
      (sym m.1) (on j m.0) h)
      (λ m. subst (λ q. IsStep pi b d (reduced pi x q) (reduced pi (x +ℚ d) k) →
      IsOnBend (spare b) d (pair_of_sums pi x q) (pair_of_sums pi (x +ℚ d) k))
      (sym m.1) (back k m.0) h)
      (ordered j k)

-- the tolerances come to less than 2^-54
tolerances : part 56 +ℚ ratio (pos 7) 2 *ℚ part 60 ≤ℚ part 54
tolerances = le_on 0 [] [] tt (search reads depth 90) tt

-- two pairs, through their sums
pub pairs_follow_their_bend : PairsFollowTheirBend
pairs_follow_their_bend pi x d b s c t a g l m p q = (both.sine, both.cosine)
  where
    size : IsNear one_ℚ d zero_ℚ
    size = near_weaken m l

    both : IsOnBend (left_over b) d (record { sine = s; cosine = c }) (record { sine = t; cosine = a })
    both =
        bend_weaken (le_by (b ∷ []) (gap tolerances) (search reads depth 90) tt)
        (near_on_bend (sums_bend pi b x d p.quarters q.quarters (record {
          is_pi = g;
          first = p.in_range;
          second = q.in_range;
          size = l;
          short = m;
        })) size (pair_near_sums p) (pair_near_sums q))
