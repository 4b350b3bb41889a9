-- Each angle has a sine and a cosine: the own pair, which depends on the angle and on pi alone.
use Rattle.std.proofs.Common.{◌≡◌, ◌^◌, [], ◌∷◌, ap, ◌∙◌, refl, subst, pos, ℤ}
use Rattle.exact.specs.Rational.{ℚ, ◌+ℚ◌, ◌*ℚ◌, inverse, ratio, of_int, one_ℚ, zero_ℚ, ◌≤ℚ◌}
use Rattle.exact.proofs.RationalRing.{ring, reads}
use Rattle.exact.proofs.Order.{◌⊕◌, ◌⊗◌, gap, known, le_by, le_of_not_negative}
use Rattle.exact.proofs.Bounds.{mul_le_mul_right}
use Rattle.exact.proofs.Strict.{Positive, positive_sum, positive_known, not_zero, mul_inverse}
use Rattle.sgp4_model.specs.Angle.{IsPi, IsSinCos, IsReduced, Pair, reduced, part}
use Rattle.sgp4_model.specs.PairLaws.{SineAndCosineExist}
use Rattle.sgp4_model.proofs.Near.{near_refl}
use Rattle.sgp4_model.proofs.Floor.{floor_ℚ, floor_ℚ_le, le_floor_ℚ}
use Rattle.sgp4_model.proofs.FarQuarters.{pi_above_3}
use Rattle.sgp4_model.proofs.AngleSpan.{sums}
use Rattle.sgp4_model.proofs.SamePairs.{pair_of_sums}

-- the angle and an eighth of a turn, in quarter turns
abbrev in_quarters : ℚ → ℚ → ℚ
in_quarters pi x = (x +ℚ ratio (pos 1) 4 *ℚ pi) *ℚ inverse (ratio (pos 1) 2 *ℚ pi)

-- the quarter turns that are taken off an angle: down to half way on both sides
unfoldable pub own_quarters : ℚ → ℚ → ℤ
own_quarters pi x = floor_ℚ (in_quarters pi x)

-- the sine and cosine of an angle that are the sums themselves
abbrev pub own_pair : ℚ → ℚ → Pair
own_pair pi x = pair_of_sums pi x (own_quarters pi x)

module _ {pi : ℚ} (h : IsPi pi) where
  -- half of pi is above 0
  half_positive : Positive (ratio (pos 1) 2 *ℚ pi)
  half_positive = subst Positive (ring (pi ∷ []) (search reads depth 90) tt) (positive_sum (positive_known 2 2) (known 1 2 ⊗ gap (pi_above_3 h)))

  -- the quarter turns, as an angle again
  quarters_back : (x : ℚ) → in_quarters pi x *ℚ (ratio (pos 1) 2 *ℚ pi) ≡ x +ℚ ratio (pos 1) 4 *ℚ pi
  quarters_back x =
      ring (x ∷ pi ∷ inverse (ratio (pos 1) 2 *ℚ pi) ∷ []) {y = (x +ℚ ratio (pos 1) 4 *ℚ pi) *ℚ (ratio (pos 1) 2 *ℚ pi *ℚ inverse (ratio (pos 1) 2 *ℚ pi))}
      (search reads depth 90) tt
      ∙ ap (λ t. (x +ℚ ratio (pos 1) 4 *ℚ pi) *ℚ t) (mul_inverse (ratio (pos 1) 2 *ℚ pi) (not_zero half_positive))
      ∙ ring (x ∷ pi ∷ []) (search reads depth 90) tt

  -- what is left lies half way to both sides of 0
  pub own_reduced : (x : ℚ) → IsReduced pi (reduced pi x (own_quarters pi x))
  unfolding own_quarters
  own_reduced x =
      record {
        low = le_by (pi ∷ x ∷ of_int (own_quarters pi x) ∷ []) (gap low) (search reads depth 90) tt;
        high = le_by (pi ∷ x ∷ of_int (own_quarters pi x) ∷ []) (gap high) (search reads depth 90) tt;
      }
    where
      half : zero_ℚ ≤ℚ ratio (pos 1) 2 *ℚ pi
      half = le_by (pi ∷ []) (known 1 2 ⊗ (gap (pi_above_3 h) ⊕ known 3 1)) (search reads depth 90) tt

      low : of_int (own_quarters pi x) *ℚ (ratio (pos 1) 2 *ℚ pi) ≤ℚ x +ℚ ratio (pos 1) 4 *ℚ pi
      low = rw (quarters_back x) at (mul_le_mul_right _ half (floor_ℚ_le (in_quarters pi x)))

      high : x +ℚ ratio (pos 1) 4 *ℚ pi ≤ℚ (of_int (own_quarters pi x) +ℚ one_ℚ) *ℚ (ratio (pos 1) 2 *ℚ pi)
      high = rw (quarters_back x) at (mul_le_mul_right _ half (le_floor_ℚ (in_quarters pi x)))

  -- the own pair is a pair
  pub own_pair_holds : (x : ℚ) → IsSinCos pi x (own_pair pi x).sine (own_pair pi x).cosine
  own_pair_holds x =
      record {
        quarters = own_quarters pi x;
        inner = sums (reduced pi x (own_quarters pi x));
        in_range = own_reduced x;
        sine_near = near_refl _ tolerance;
        cosine_near = near_refl _ tolerance;
        sine_is = refl;
        cosine_is = refl;
      }
    where
      tolerance : zero_ℚ ≤ℚ part 60
      tolerance = le_of_not_negative (known 1 (2 ^ 60))

-- the own pair serves
pub sine_and_cosine_exist : SineAndCosineExist
sine_and_cosine_exist pi x h = ((own_pair pi x).sine, ((own_pair pi x).cosine, own_pair_holds h x))
