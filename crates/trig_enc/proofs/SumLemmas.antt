-- The sums that the steps come to.
use Rattle.std.proofs.Common.{◌≡◌, arith, ap, ◌∙◌, sym, subst, ℕ, ◌≤◌, ◌*◌, ◌/◌, ◌^◌, [], ◌∷◌, ℤ, pos, negsuc, suc, true, neg_ℤ}
use Rattle.std.proofs.lemmas.Int.{ints}
use Rattle.exact.specs.Rational.{ℚ, of_int, ratio, ◌+ℚ◌, ◌-ℚ◌, ◌*ℚ◌, neg_ℚ, one_ℚ, ◌≤ℚ◌}
use Rattle.exact.proofs.RationalRing.{ring, reads}
use Rattle.exact.proofs.Order.{NonNeg, gap, known, le_by, ◌⊕◌, ◌⊗◌}
use Rattle.exact.proofs.Integers.{of_int_is, of_int_le, of_int_neg}
use Rattle.sgp4_model.specs.AngleSums.{sine_sum}
use Rattle.sgp4_model.specs.Angle.{IsNear}
use Rattle.sgp4_model.proofs.Near.{near_weaken}
use Rattle.sgp4_model.proofs.Horner.{horner, cosine_divisors, sine_divisors, cosine_rest, sine_rest, cosine_horner, sine_horner, sine_neg}
use Rattle.trig_enc.specs.Coded.{IsCoded, IsCodedSquare, IsCodedCosine, IsCodedSine, IsSignedSine, coded, decoded}
use Rattle.fixed_iv.proofs.RoundingLemmas.{lt_of_test}
use lib.IntN.{nat_abs}
use lib.Signed.{lt_z}
use Rattle.trig_enc.proofs.Rounding.{natural}
use Rattle.trig_enc.proofs.StepLemmas.{product_under, product_over}

-- the square of an angle
pub square_coded : (angle : ℕ) → angle ≤ 3622009729038561421 → IsCodedSquare (angle * angle / 4611686018427387904) (decoded (pos angle) *ℚ decoded (pos angle))
square_coded angle h =
    record {
      low = le_by (a ∷ []) (known 1 (2 ^ 124) ⊗ (natural angle ⊗ natural angle)) (search reads depth 90) tt;
      high = le_by (a ∷ []) (known 1 (2 ^ 124) ⊗ gap most ⊗ (natural angle ⊕ known 3622009729038561421 1) ⊕ known 3184297138696372252766497898022413272 21267647932558653966460912964485513216000) (search reads depth 90) tt;
      under = le_by (a ∷ of_int (pos (angle * angle / 4611686018427387904)) ∷ []) (gap (product_under angle angle)) (search reads depth 90) tt;
      over = le_by (a ∷ of_int (pos (angle * angle / 4611686018427387904)) ∷ []) (gap (product_over angle angle)) (search reads depth 90) tt;
    }
  where
    a : ℚ
    a = of_int (pos angle)

    most : of_int (pos angle) ≤ℚ ratio (pos 3622009729038561421) 1
    most = rw (← of_int_is (pos 3622009729038561421)) (of_int_le (omega (arith, ints, h)))

-- the steps begin with 1
pub one_coded : IsCoded 4611686018427387904 one_ℚ
one_coded =
    record {
      low = le_by [] (known 1 1) (search reads depth 90) tt;
      high = le_by [] (known 0 1) (search reads depth 90) tt;
      near = record {
        above = rw (of_int_is (pos 4611686018427387904)) (le_by [] (known 3 1) (search reads depth 90) tt);
        below = rw (of_int_is (pos 4611686018427387904)) (le_by [] (known 3 1) (search reads depth 90) tt);
      };
    }

-- the steps of the cosine
pub cosine_coded : (angle result : ℕ) → IsCoded result (horner (decoded (pos angle) *ℚ decoded (pos angle)) (2 ∷ cosine_divisors)) → IsCodedCosine angle result
unfolding cosine_rest
cosine_coded angle result h =
    rw (cosine_horner (decoded (pos angle))) (near_weaken (le_by [] (known 1 1) (search reads depth 90) tt) h.near)

-- the steps of the sine, times the angle
sine_product : (a s q p : ℚ) → NonNeg a → a ≤ℚ ratio (pos 4611686018427387904) 1 →
    s ≤ℚ a *ℚ q *ℚ ratio (pos 1) 4611686018427387904 → a *ℚ q *ℚ ratio (pos 1) 4611686018427387904 ≤ℚ s +ℚ one_ℚ →
    IsNear (ratio (pos 3) 1) q (coded p) → IsNear (ratio (pos 4) 1) s (a *ℚ p)
sine_product a s q p n m under over near =
    record {
      above =
          le_by (a ∷ s ∷ q ∷ p ∷ [])
          (gap under ⊕ known 1 4611686018427387904 ⊗ n ⊗ gap near.above ⊕ known 3 4611686018427387904 ⊗ gap m ⊕ known 1 1) (search reads depth 90) tt;
      below =
          le_by (a ∷ s ∷ q ∷ p ∷ [])
          (gap over ⊕ known 1 4611686018427387904 ⊗ n ⊗ gap near.below ⊕ known 3 4611686018427387904 ⊗ gap m) (search reads depth 90) tt;
    }

sine_is : (y : ℚ) → y *ℚ horner (y *ℚ y) (6 ∷ sine_divisors) ≡ sine_sum y
unfolding sine_rest
sine_is y = times (sine_rest y) ∙ sym (sine_horner y)
  where
    times : (rest : ℚ) → y *ℚ (one_ℚ -ℚ ratio (pos 1) 6 *ℚ (y *ℚ y *ℚ rest)) ≡ y -ℚ ratio (pos 1) 6 *ℚ (y *ℚ y *ℚ y *ℚ rest)
    times rest = ring (y ∷ rest ∷ []) (search reads depth 90) tt

pub sine_coded : (angle q : ℕ) → angle ≤ 3622009729038561421 → IsCoded q (horner (decoded (pos angle) *ℚ decoded (pos angle)) (6 ∷ sine_divisors)) →
    IsCodedSine angle (angle * q / 4611686018427387904)
sine_coded angle q h r =
    subst (λ t. IsNear (ratio (pos 4) 1) (of_int (pos (angle * q / 4611686018427387904))) t)
    (times (of_int (pos angle)) (horner (decoded (pos angle) *ℚ decoded (pos angle)) (6 ∷ sine_divisors)) ∙ ap coded (sine_is (decoded (pos angle))))
    (sine_product (of_int (pos angle)) (of_int (pos (angle * q / 4611686018427387904))) (of_int (pos q)) _ (natural angle)
    (rw (← of_int_is (pos 4611686018427387904)) (of_int_le (omega (arith, ints, h)))) (product_under angle q) (product_over angle q) r.near)
  where
    times : (a p : ℚ) → a *ℚ p ≡ coded (ratio (pos 1) 4611686018427387904 *ℚ a *ℚ p)
    times a p = ring (a ∷ p ∷ []) (search reads depth 90) tt

pub sine_result : (angle q s : ℕ) → angle ≤ 3622009729038561421 → s ≡ angle * q / 4611686018427387904 →
    IsCoded q (horner (decoded (pos angle) *ℚ decoded (pos angle)) (6 ∷ sine_divisors)) → IsCodedSine angle s
sine_result angle q s h e r = subst (IsCodedSine angle) (sym e) (sine_coded angle q h r)

-- the sine of the opposite angle
pub sine_opposite : (angle s : ℕ) → IsCodedSine angle s → IsSignedSine (neg_ℤ (pos angle)) (neg_ℤ (pos s))
sine_opposite angle s h =
    rw (of_int_neg (pos angle), of_int_neg (pos s), opposite (of_int (pos angle)), sine_neg (decoded (pos angle)))
    (record {
      above = le_by (of_int (pos s) ∷ sine_sum (decoded (pos angle)) ∷ []) (gap h.below) (search reads depth 90) tt;
      below = le_by (of_int (pos s) ∷ sine_sum (decoded (pos angle)) ∷ []) (gap h.above) (search reads depth 90) tt;
    })
  where
    opposite : (a : ℚ) → ratio (pos 1) 4611686018427387904 *ℚ neg_ℚ a ≡ neg_ℚ (ratio (pos 1) 4611686018427387904 *ℚ a)
    opposite a = ring (a ∷ []) (search reads depth 90) tt

-- the sine of an angle below 0
pub negative_sine : (rest : ℤ) (angle s : ℕ) (out : ℤ) → angle ≡ nat_abs rest → lt_z rest (pos 0) ≡ true → out ≡ neg_ℤ (pos s) → IsCodedSine angle s → IsSignedSine rest out
negative_sine (pos n) angle s out e b o h = absurd (not_below n b)
  where
    not_below : (n : ℕ) → lt_z (pos n) (pos 0) ≡ true → ⊥
    not_below n b = omega (arith, ints, lt_of_test (pos n) (pos 0) b)
negative_sine (negsuc n) angle s out e b o h = rw o (sine_opposite (suc n) s (subst (λ t. IsCodedSine t s) e h))
