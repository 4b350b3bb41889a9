-- What code that computes sines needs: its remainder is the quadrant, and its shifted point has a pair.
use Rattle.std.proofs.Common.{◌≡◌, ◌^◌, refl, [], ◌∷◌, pos, negsuc, ℤ}
use Rattle.std.specs.Int.{int_rem_euclid}
use Rattle.exact.specs.Rational.{ℚ, ◌+ℚ◌, ◌*ℚ◌, neg_ℚ, ratio, of_int, zero_ℚ, ◌≤ℚ◌}
use Rattle.exact.proofs.RationalRing.{ring, reads}
use Rattle.exact.proofs.Order.{◌⊕◌, ◌⊗◌, gap, known, le_by, le_of_not_negative}
use Rattle.sgp4_model.specs.Angle.{IsPi, IsSinCos, quadrant, turned, reduced, part, least_pi}
use Rattle.sgp4_model.proofs.Near.{near_refl}
use Rattle.sgp4_model.proofs.AngleSpan.{sums}

-- `k.rem_euclid(4)` is the quadrant of k
pub rem_euclid_is_quadrant : (k : ℤ) → int_rem_euclid k (pos 4) ≡ pos (quadrant k)
unfolding quadrant
rem_euclid_is_quadrant (pos n) = refl
rem_euclid_is_quadrant (negsuc n) = refl

-- the angle y and k quarter turns, less k quarter turns
back : (pi y : ℚ) (k : ℤ) → reduced pi (y +ℚ of_int k *ℚ (ratio (pos 1) 2 *ℚ pi)) k ≡ y
back pi y k = ring (pi ∷ y ∷ of_int k ∷ []) (search reads depth 90) tt

-- A point that is at most a quarter of the least pi from 0, with k quarter turns, has the turned sums as a pair, for each pi.
pub shifted_point : (pi y : ℚ) (k : ℤ) → IsPi pi → neg_ℚ (ratio (pos 1) 4 *ℚ least_pi) ≤ℚ y → y ≤ℚ ratio (pos 1) 4 *ℚ least_pi →
    IsSinCos pi (y +ℚ of_int k *ℚ (ratio (pos 1) 2 *ℚ pi)) (turned (quadrant k) (sums y)).sine (turned (quadrant k) (sums y)).cosine
shifted_point pi y k h low high =
    record {
      quarters = k;
      inner = sums y;
      in_range = rw (back pi y k) (record {
        low = le_by (pi ∷ y ∷ []) (gap low ⊕ known 1 4 ⊗ gap h.low) (search reads depth 90) tt;
        high = le_by (pi ∷ y ∷ []) (gap high ⊕ known 1 4 ⊗ gap h.low) (search reads depth 90) tt;
      });
      sine_near = rw (back pi y k) (near_refl _ tolerance);
      cosine_near = rw (back pi y k) (near_refl _ tolerance);
      sine_is = refl;
      cosine_is = refl;
    }
  where
    tolerance : zero_ℚ ≤ℚ part 60
    tolerance = le_of_not_negative (known 1 (2 ^ 60))
