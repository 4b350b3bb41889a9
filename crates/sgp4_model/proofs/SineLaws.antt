-- The sine's sum: it rises, by at most what the angle does.
use Rattle.std.proofs.Common.{[], ◌∷◌, pos, ⊎_elim}
use Rattle.exact.specs.Rational.{ℚ, ◌+ℚ◌, ◌-ℚ◌, ◌*ℚ◌, ratio, zero_ℚ, ◌≤ℚ◌}
use Rattle.exact.proofs.RationalRing.{reads}
use Rattle.exact.proofs.Order.{NonNeg, ◌⊕◌, ◌⊗◌, gap, known, le_by, not_negative}
use Rattle.exact.proofs.Bounds.{square, le_total}
use Rattle.sgp4_model.specs.Angle.{IsNear}
use Rattle.sgp4_model.specs.AngleSums.{sine_sum}
use Rattle.sgp4_model.proofs.Near.{near_positive, near_sym}
use Rattle.sgp4_model.proofs.Horner.{sine_rest, sine_horner, sine_zero}
use Rattle.sgp4_model.proofs.GoodStep.{IsSmall, IsHigh}
use Rattle.sgp4_model.proofs.Rests.{IsAngle, small_square, sine_rest_high, sine_rest_near}

-- z^2 + zy + y^2
abbrev pub mixed : ℚ → ℚ → ℚ
mixed y z = z *ℚ z +ℚ z *ℚ y +ℚ y *ℚ y

-- y times the squares of y and z
scaled_squares : (y z : ℚ) → y ≤ℚ z → IsNear (mixed y z *ℚ (z -ℚ y)) (y *ℚ (y *ℚ y)) (y *ℚ (z *ℚ z))
scaled_squares y z h =
    record {
      above = le_by (y ∷ z ∷ []) (gap h ⊗ (square (z +ℚ y) ⊕ square y)) (search reads depth 90) tt;
      below = le_by (y ∷ z ∷ []) (gap h ⊗ square z) (search reads depth 90) tt;
    }

-- the certificates, over the rests w at y and x at z
rises : (y z w x : ℚ) → y ≤ℚ z → IsSmall (y *ℚ y) → IsSmall (z *ℚ z) → IsHigh x →
    IsNear (ratio (pos 1) 10 *ℚ (mixed y z *ℚ (z -ℚ y))) (y *ℚ w) (y *ℚ x) →
    ratio (pos 2) 3 *ℚ (z -ℚ y) ≤ℚ z -ℚ ratio (pos 1) 6 *ℚ (z *ℚ z *ℚ z *ℚ x) -ℚ (y -ℚ ratio (pos 1) 6 *ℚ (y *ℚ y *ℚ y *ℚ w))
rises y z w x l s s' h n =
    le_by (y ∷ z ∷ w ∷ x ∷ [])
    (known 1 6 ⊗ (gap l ⊗ size ⊗ gap h.high ⊕ square y ⊗ gap n.below ⊕ gap s.high ⊗ (known 1 10 ⊗ (size ⊗ gap l))
    ⊕ gap l ⊗ (known 10617 10000 ⊗ (known 3 2 ⊗ (gap s.high ⊕ gap s'.high) ⊕ known 1 2 ⊗ square (z -ℚ y)) ⊕ known 347933 10000000)))
    (search reads depth 90) tt
  where
    size : NonNeg (ratio (pos 1) 2 *ℚ (y *ℚ y +ℚ z *ℚ z +ℚ (y +ℚ z) *ℚ (y +ℚ z)))
    size = known 1 2 ⊗ (square y ⊕ square z ⊕ square (y +ℚ z))

-- the other certificate
rises_at_most : (y z w x : ℚ) → y ≤ℚ z → IsSmall (y *ℚ y) → IsHigh x →
    IsNear (ratio (pos 1) 10 *ℚ (mixed y z *ℚ (z -ℚ y))) (y *ℚ w) (y *ℚ x) →
    z -ℚ ratio (pos 1) 6 *ℚ (z *ℚ z *ℚ z *ℚ x) -ℚ (y -ℚ ratio (pos 1) 6 *ℚ (y *ℚ y *ℚ y *ℚ w)) ≤ℚ z -ℚ y
rises_at_most y z w x l s h n =
    le_by (y ∷ z ∷ w ∷ x ∷ [])
    (known 1 6 ⊗ (gap l ⊗ size ⊗ gap h.low ⊕ known 8383 10000 ⊗ (gap l ⊗ size) ⊕ square y ⊗ gap n.above ⊕ gap s.high ⊗ (known 1 10 ⊗ (size ⊗ gap l))))
    (search reads depth 90) tt
  where
    size : NonNeg (ratio (pos 1) 2 *ℚ (y *ℚ y +ℚ z *ℚ z +ℚ (y +ℚ z) *ℚ (y +ℚ z)))
    size = known 1 2 ⊗ (square y ⊕ square z ⊕ square (y +ℚ z))

-- the sine rises, by 2/3 to 1 of what the angle does
pub sine_rises : {y z : ℚ} → IsAngle y → IsAngle z → y ≤ℚ z → ratio (pos 2) 3 *ℚ (z -ℚ y) ≤ℚ sine_sum z -ℚ sine_sum y
sine_rises {y} {z} h k l =
    rw (sine_horner y, sine_horner z)
    (rises y z (sine_rest y) (sine_rest z) l (small_square h) (small_square k) (sine_rest_high k) (sine_rest_near y _ y z h k (scaled_squares y z l)))

-- the upper side
pub sine_rises_at_most : {y z : ℚ} → IsAngle y → IsAngle z → y ≤ℚ z → sine_sum z -ℚ sine_sum y ≤ℚ z -ℚ y
sine_rises_at_most {y} {z} h k l =
    rw (sine_horner y, sine_horner z)
    (rises_at_most y z (sine_rest y) (sine_rest z) l (small_square h) (sine_rest_high k) (sine_rest_near y _ y z h k (scaled_squares y z l)))

-- near angles have near sines
pub sine_near : {d y z : ℚ} → IsAngle y → IsAngle z → IsNear d y z → IsNear d (sine_sum y) (sine_sum z)
sine_near {d} {y} {z} h k n = ⊎_elim (λ l. ordered h k l n) (λ l. near_sym (ordered k h l (near_sym n))) (le_total y z)
  where
    ordered : {y z : ℚ} → IsAngle y → IsAngle z → y ≤ℚ z → IsNear d y z → IsNear d (sine_sum y) (sine_sum z)
    ordered {y} {z} h k l n =
        record {
          above = le_by (d ∷ y ∷ z ∷ sine_sum y ∷ sine_sum z ∷ [])
              (gap (sine_rises h k l) ⊕ known 2 3 ⊗ gap l ⊕ not_negative (near_positive n)) (search reads depth 90) tt;
          below = le_by (d ∷ y ∷ z ∷ sine_sum y ∷ sine_sum z ∷ []) (gap (sine_rises_at_most h k l) ⊕ gap n.below) (search reads depth 90) tt;
        }

-- a sine is no larger than its angle
pub sine_small : {d y : ℚ} → IsAngle y → IsNear d y zero_ℚ → IsNear d (sine_sum y) zero_ℚ
sine_small {d} {y} h n = rw sine_zero at (sine_near h zero_angle n)
  where
    zero_angle : IsAngle zero_ℚ
    zero_angle = record { low = le_by [] (known 3927 5000) (search reads depth 90) tt; high = le_by [] (known 3927 5000) (search reads depth 90) tt }
