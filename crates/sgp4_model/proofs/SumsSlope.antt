-- Pairs of sums at two angles that are at most 1 apart, with any allowed quarter turns, are on slope.
use Rattle.std.proofs.Common.{◌≡◌, arith, ℕ, zero, suc, [], ◌∷◌, ⊎_elim, ap, ◌∙◌, subst, sym}
use Rattle.std.proofs.lemmas.Int.{ints}
use lib.IntN.{ℤ, pos, ◌+ℤ◌}
use Rattle.exact.specs.Rational.{ℚ, ◌+ℚ◌, ◌-ℚ◌, ◌*ℚ◌, neg_ℚ, ratio, of_int, ◌≤ℚ◌}
use Rattle.exact.proofs.RationalRing.{ring, reads}
use Rattle.exact.proofs.Integers.{of_int_add, of_int_le, of_int_is}
use Rattle.sgp4_model.specs.Angle.{quadrant, reduced}
use Rattle.sgp4_model.proofs.PairLaws.{turned_next, ordered}
use Rattle.sgp4_model.proofs.AngleSpan.{sums}
use Rattle.sgp4_model.proofs.SamePairs.{pair_of_sums}
use Rattle.sgp4_model.proofs.OnSlope.{IsOnSlope, turned_on_slope}
use Rattle.sgp4_model.proofs.TieSlope.{slack, way_on}
use Rattle.sgp4_model.proofs.Quarters.{IsStep, same_quarter, next_quarter, last_quarter, far_on, far_back}

-- two and more are at least 2
at_least_2 : (n : ℕ) → ratio (pos 2) 1 ≤ℚ of_int (pos (suc (suc n)))
at_least_2 n = rw (of_int_is (pos 2)) at (of_int_le {a = pos 2} {b = pos (suc (suc n))} (omega (arith, ints)))

-- no quarter turn more is the same number of them
no_more : (k : ℤ) → k +ℤ pos 0 ≡ k
no_more k = omega (arith, ints)

-- the step, from the reduced angles: the second has n quarter turns more
step_on : (pi x d : ℚ) (k : ℤ) (n : ℕ) → d ≡ reduced pi (x +ℚ d) (k +ℤ pos n) -ℚ reduced pi x k +ℚ of_int (pos n) *ℚ (ratio (pos 1) 2 *ℚ pi)
step_on pi x d k n = rw (of_int_add k (pos n)) (ring (pi ∷ x ∷ d ∷ of_int k ∷ of_int (pos n) ∷ []) (search reads depth 90) tt)

-- or less
step_back : (pi x d : ℚ) (k : ℤ) (n : ℕ) → d ≡ reduced pi (x +ℚ d) k -ℚ reduced pi x (k +ℤ pos n) -ℚ of_int (pos n) *ℚ (ratio (pos 1) 2 *ℚ pi)
step_back pi x d k n = rw (of_int_add k (pos n)) (ring (pi ∷ x ∷ d ∷ of_int k ∷ of_int (pos n) ∷ []) (search reads depth 90) tt)

-- the step, where it has no quarter turn
none_on : {d : ℚ} (y z p : ℚ) → d ≡ z -ℚ y +ℚ of_int (pos 0) *ℚ p → d ≡ z -ℚ y
none_on {d} y z p e = (rw (of_int_is (pos 0)) at e) ∙ ring (y ∷ z ∷ p ∷ []) (search reads depth 90) tt

-- the same, less none
none_back : {d : ℚ} (y z p : ℚ) → d ≡ z -ℚ y -ℚ of_int (pos 0) *ℚ p → d ≡ z -ℚ y
none_back {d} y z p e = (rw (of_int_is (pos 0)) at e) ∙ ring (y ∷ z ∷ p ∷ []) (search reads depth 90) tt

-- where it has one
one_on : {d : ℚ} (y z pi : ℚ) → d ≡ z -ℚ y +ℚ of_int (pos 1) *ℚ (ratio (pos 1) 2 *ℚ pi) → d ≡ way_on pi y z
one_on {d} y z pi e = (rw (of_int_is (pos 1)) at e) ∙ ring (y ∷ z ∷ pi ∷ []) (search reads depth 90) tt

-- where it has one less
one_back : {d : ℚ} (y z pi : ℚ) → d ≡ z -ℚ y -ℚ of_int (pos 1) *ℚ (ratio (pos 1) 2 *ℚ pi) → neg_ℚ d ≡ way_on pi (neg_ℚ y) (neg_ℚ z)
one_back {d} y z pi e = ap neg_ℚ (rw (of_int_is (pos 1)) at e) ∙ ring (y ∷ z ∷ pi ∷ []) (search reads depth 90) tt

module _ (pi b x d : ℚ) where
  -- the second angle has n quarter turns more
  on : (k : ℤ) (n : ℕ) → IsStep pi b d (reduced pi x k) (reduced pi (x +ℚ d) (k +ℤ pos n)) →
      IsOnSlope (slack b d) d (pair_of_sums pi x k) (pair_of_sums pi (x +ℚ d) (k +ℤ pos n))
  on k zero h = rw (ap quadrant (no_more k)) (turned_on_slope (quadrant k) (same_quarter h (none_on _ _ _ (step_on pi x d k 0))))
  on k (suc zero) h =
      rw (turned_next k (sums (reduced pi (x +ℚ d) (k +ℤ pos 1))))
      (turned_on_slope (quadrant k) (next_quarter h (one_on _ _ _ (step_on pi x d k 1))))
  on k (suc (suc n)) h = absurd (far_on h (at_least_2 n) (step_on pi x d k (suc (suc n))))

  -- or less
  back : (k : ℤ) (n : ℕ) → IsStep pi b d (reduced pi x (k +ℤ pos n)) (reduced pi (x +ℚ d) k) →
      IsOnSlope (slack b d) d (pair_of_sums pi x (k +ℤ pos n)) (pair_of_sums pi (x +ℚ d) k)
  back k zero h = rw (ap quadrant (no_more k)) (turned_on_slope (quadrant k) (same_quarter h (none_back _ _ _ (step_back pi x d k 0))))
  back k (suc zero) h =
      rw (turned_next k (sums (reduced pi x (k +ℤ pos 1))))
      (turned_on_slope (quadrant k) (last_quarter h (one_back _ _ _ (step_back pi x d k 1))))
  back k (suc (suc n)) h = absurd (far_back h (at_least_2 n) (step_back pi x d k (suc (suc n))))

  -- with any allowed quarter turns
  pub sums_slope : (j k : ℤ) → IsStep pi b d (reduced pi x j) (reduced pi (x +ℚ d) k) →
      IsOnSlope (slack b d) d (pair_of_sums pi x j) (pair_of_sums pi (x +ℚ d) k)
  sums_slope j k h =
      ⊎_elim
      (λ m. subst (λ q. IsStep pi b d (reduced pi x j) (reduced pi (x +ℚ d) q) → IsOnSlope (slack b d) d (pair_of_sums pi x j) (pair_of_sums pi (x +ℚ d) q))
      (sym m.1) (on j m.0) h)
      (λ m. subst (λ q. IsStep pi b d (reduced pi x q) (reduced pi (x +ℚ d) k) → IsOnSlope (slack b d) d (pair_of_sums pi x q) (pair_of_sums pi (x +ℚ d) k))
      (sym m.1) (back k m.0) h)
      (ordered j k)
