-- The cosine of an angle of at most 175 degrees is well above -1.
use Rattle.std.proofs.Common.{◌≡◌, ℕ, zero, suc, [], ◌∷◌, ◌*◌, ◌-◌, ◌^◌, ℤ, pos, negsuc, arith}
use Rattle.std.proofs.lemmas.Int.{ints}
use Rattle.exact.specs.Rational.{ℚ, ratio, of_int, neg_ℚ, zero_ℚ, one_ℚ, ◌+ℚ◌, ◌-ℚ◌, ◌*ℚ◌, ◌≤ℚ◌}
use Rattle.exact.proofs.RationalRing.{ring, reads}
use Rattle.exact.proofs.Integers.{of_int_is, of_int_le}
use Rattle.exact.proofs.Order.{NonNeg, gap, known, le_by, same_sign, ◌⊕◌, ◌⊗◌}
use Rattle.exact.proofs.Bounds.{by_sign, square}
use Rattle.exact.proofs.Strict.{not_both, positive_known}
use Rattle.sgp4_model.specs.Angle.{IsNear, IsPi, IsReduced, IsSinCos, Pair, part, quadrant, reduced, turned}
use Rattle.sgp4_model.specs.AngleSums.{cosine_sum, sine_sum}
use Rattle.sgp4_model.proofs.AngleSpan.{reduced_angle, sine_between}
use Rattle.sgp4_model.proofs.CosineLaws.{cosine_low}
use Rattle.sgp4_model.proofs.FarQuarters.{pi_above_3}
use Rattle.sgp4_model.proofs.Horner.{cosine_horner, cosine_rest}
use Rattle.sgp4_model.proofs.Pythagoras.{squares_add_up_to_one}
use Rattle.sgp4_model.proofs.Rests.{IsAngle, cosine_rest_high}

abbrev limit : ℚ
limit = ratio (pos 34) 10000

no_fraction : ratio (pos 3) 4 ≤ℚ zero_ℚ → ⊥
no_fraction h = not_both (positive_known 2 4) (same_sign (ring [] (search reads depth 90) tt) (gap h))

module _ (pi x c : ℚ) (is_pi : IsPi pi) (low : zero_ℚ ≤ℚ x) (high : x ≤ℚ ratio (pos 175) 180 *ℚ pi) where
  -- less than no quarter turn
  below_none : (n : ℕ) → IsReduced pi (reduced pi x (negsuc n)) → ⊥
  below_none n r =
      no_fraction
      (le_by (of_int (negsuc n) ∷ pi ∷ x ∷ [])
      (known 1 2 ⊗ (gap at_most ⊗ (known 3 1 ⊕ gap (pi_above_3 is_pi))) ⊕ gap r.high ⊕ gap low ⊕ known 1 4 ⊗ gap (pi_above_3 is_pi))
      (search reads depth 90) tt)
    where
      at_most : of_int (negsuc n) ≤ℚ ratio (negsuc 0) 1
      at_most = rw (of_int_is (negsuc 0)) at (of_int_le {a = negsuc n} {b = negsuc 0} (omega (arith, ints)))

  -- three quarter turns or more
  above_two : (n : ℕ) → IsReduced pi (reduced pi x (pos (suc (suc (suc n))))) → ⊥
  above_two n r =
      no_fraction
      (le_by (of_int (pos (suc (suc (suc n)))) ∷ pi ∷ x ∷ [])
      (known 1 2 ⊗ (gap at_least ⊗ (known 3 1 ⊕ gap (pi_above_3 is_pi))) ⊕ gap r.low ⊕ gap high ⊕ known 5 18 ⊗ gap (pi_above_3 is_pi) ⊕ known 1 12)
      (search reads depth 90) tt)
    where
      at_least : ratio (pos 3) 1 ≤ℚ of_int (pos (suc (suc (suc n))))
      at_least = rw (of_int_is (pos 3)) at (of_int_le {a = pos 3} {b = pos (suc (suc (suc n)))} (omega (arith, ints)))

  -- a sine is at most 0.7854
  quarter : (y s : ℚ) → IsAngle y → IsNear (part 60) s (sine_sum y) → limit ≤ℚ one_ℚ +ℚ neg_ℚ s
  quarter y s a n =
      le_by (s ∷ sine_sum y ∷ []) (gap n.above ⊕ gap (sine_between a a.low a.high).above ⊕ known (2 ^ 60 * 211200 - 10 ^ 6) (10 ^ 6 * 2 ^ 60)) (search reads depth 90) tt

  -- a cosine at an angle of at most -0.0872
  half : (y s : ℚ) → IsAngle y → y ≤ℚ ratio (negsuc 871) 10000 → IsNear (part 60) s (cosine_sum y) → limit ≤ℚ one_ℚ +ℚ neg_ℚ s
  half y s a l n =
      le_by (s ∷ y ∷ cosine_rest y ∷ [])
      (gap (rw cosine_horner at n.above) ⊕ known 1 2 ⊗ (square y ⊗ gap (cosine_rest_high a).low) ⊕ known 45 100 ⊗ (gap l ⊗ (gap l ⊕ known 1744 10000)) ⊕ known 48927106351751115419 2251799813685248000000000)
      (search reads depth 90) tt

  unturned : (y s : ℚ) → IsAngle y → IsNear (part 60) s (cosine_sum y) → limit ≤ℚ one_ℚ +ℚ s
  unturned y s a n =
      le_by (s ∷ cosine_sum y ∷ []) (gap n.below ⊕ gap (cosine_low a) ⊕ known (2 ^ 60 * 16866 - 10 ^ 4) (10 ^ 4 * 2 ^ 60)) (search reads depth 90) tt

  by_quarter : (k : ℤ) (inner : Pair) → IsReduced pi (reduced pi x k) → IsNear (part 60) inner.sine (sine_sum (reduced pi x k)) → IsNear (part 60) inner.cosine (cosine_sum (reduced pi x k)) →
      c ≡ (turned (quadrant k) inner).cosine → limit ≤ℚ one_ℚ +ℚ c
  unfolding turned quadrant
  by_quarter (pos zero) inner r s n e = rw e (unturned _ inner.cosine (reduced_angle is_pi r) n)
  by_quarter (pos (suc zero)) inner r s n e = rw e (quarter _ inner.sine (reduced_angle is_pi r) s)
  by_quarter (pos (suc (suc zero))) inner r s n e = rw e (half _ inner.cosine (reduced_angle is_pi r) (far (of_int (pos 2)) (of_int_is (pos 2))) n)
    where
      far : (t : ℚ) → t ≡ ratio (pos 2) 1 → x -ℚ t *ℚ (ratio (pos 1) 2 *ℚ pi) ≤ℚ ratio (negsuc 871) 10000
      far t f = rw f (le_by (x ∷ pi ∷ []) (gap high ⊕ known 1 36 ⊗ gap is_pi.low ⊕ known 199387799149436538553615273291907 3000000000000000000000000000000000000) (search reads depth 90) tt)
  by_quarter (pos (suc (suc (suc n)))) inner r s m e = absurd (above_two n r)
  by_quarter (negsuc n) inner r s m e = absurd (below_none n r)

-- 1 and the cosine of an angle of at most 175 degrees are at least 0.0034
pub cosine_above : (pi x s c : ℚ) → IsPi pi → IsSinCos pi x s c → zero_ℚ ≤ℚ x → x ≤ℚ ratio (pos 175) 180 *ℚ pi → ratio (pos 34) 10000 ≤ℚ one_ℚ +ℚ c
cosine_above pi x s c is_pi h low high = by_quarter pi x c is_pi low high h.quarters h.inner h.in_range h.sine_near h.cosine_near h.cosine_is

-- and its sine is at most 24.5 times that
pub sine_within : (pi x s c : ℚ) → IsPi pi → IsSinCos pi x s c → ratio (pos 34) 10000 ≤ℚ one_ℚ +ℚ c → IsNear (ratio (pos 49) 2 *ℚ (one_ℚ +ℚ c)) s zero_ℚ
sine_within pi x s c is_pi h least =
    record {
      above = by_sign (ratio (pos 49) 2 *ℚ (one_ℚ +ℚ c) -ℚ s) (λ n. le_by (s ∷ c ∷ []) n (search reads depth 90) tt) (λ n. le_by (s ∷ c ∷ []) (known 22517998136852480000000 3387832819689377491 ⊗ n ⊗ (n ⊗ (n ⊕ known 2 1 ⊗ bound_low) ⊕ rest)) (search reads depth 90) tt);
      below = by_sign (ratio (pos 49) 2 *ℚ (one_ℚ +ℚ c) +ℚ s) (λ n. le_by (s ∷ c ∷ []) n (search reads depth 90) tt) (λ n. le_by (s ∷ c ∷ []) (known 22517998136852480000000 3387832819689377491 ⊗ n ⊗ (n ⊗ (n ⊕ known 2 1 ⊗ bound_low) ⊕ rest)) (search reads depth 90) tt);
    }
  where
    sum_low : NonNeg (one_ℚ +ℚ c)
    sum_low = same_sign (ring (c ∷ []) (search reads depth 90) tt) (gap least ⊕ known 34 10000)

    bound_low : NonNeg (ratio (pos 49) 2 *ℚ (one_ℚ +ℚ c))
    bound_low = known 49 2 ⊗ sum_low

    -- what the squares leave of the square of the sine, less that of its bound
    rest : NonNeg (one_ℚ +ℚ part 58 -ℚ (s *ℚ s +ℚ c *ℚ c) +ℚ ratio (pos 2405) 4 *ℚ ((one_ℚ +ℚ c) *ℚ (one_ℚ +ℚ c -ℚ ratio (pos 34) 10000)) +ℚ ratio (pos 177) 4000 *ℚ (one_ℚ +ℚ c -ℚ ratio (pos 34) 10000))
    rest = gap (squares_add_up_to_one pi x s c is_pi h).above ⊕ known 2405 4 ⊗ (sum_low ⊗ gap least) ⊕ known 177 4000 ⊗ gap least
