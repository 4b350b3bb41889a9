-- The cosine's sum: bounds, and how far it differs between near angles.
use Rattle.std.proofs.Common.{[], ◌∷◌, pos}
use Rattle.exact.specs.Rational.{ℚ, ◌+ℚ◌, ◌-ℚ◌, ◌*ℚ◌, ratio, one_ℚ, zero_ℚ, ◌≤ℚ◌}
use Rattle.exact.proofs.RationalRing.{reads}
use Rattle.exact.proofs.Order.{◌⊕◌, ◌⊗◌, gap, known, le_by, not_negative}
use Rattle.exact.proofs.Bounds.{square}
use Rattle.sgp4_model.specs.Angle.{IsNear}
use Rattle.sgp4_model.specs.AngleSums.{cosine_sum}
use Rattle.sgp4_model.proofs.Near.{near_positive}
use Rattle.sgp4_model.proofs.Horner.{cosine_rest, cosine_horner}
use Rattle.sgp4_model.proofs.GoodStep.{IsSmall, IsHigh}
use Rattle.sgp4_model.proofs.Rests.{IsAngle, small_square, cosine_rest_high, cosine_rest_near}

-- squares of angles differ by at most 1.5708 times what the angles do
pub squares_near : {d y z : ℚ} → IsAngle y → IsAngle z → IsNear d y z →
    IsNear (ratio (pos 3927) 2500 *ℚ d) (one_ℚ *ℚ (y *ℚ y)) (one_ℚ *ℚ (z *ℚ z))
squares_near {d} {y} {z} h k n =
    record {
      above = le_by (d ∷ y ∷ z ∷ []) (known 1 2 ⊗ ((gap h.high ⊕ gap k.high) ⊗ gap n.below ⊕ (gap h.low ⊕ gap k.low) ⊗ gap n.above)) (search reads depth 90) tt;
      below = le_by (d ∷ y ∷ z ∷ []) (known 1 2 ⊗ ((gap h.high ⊕ gap k.high) ⊗ gap n.above ⊕ (gap h.low ⊕ gap k.low) ⊗ gap n.below)) (search reads depth 90) tt;
    }

-- half of u * c and half of v * b, for rests c and b: the certificate of both directions
half_products : (d u v c b : ℚ) → IsSmall u → IsSmall v → IsHigh c → IsHigh b →
    IsNear (ratio (pos 3927) 2500 *ℚ d) (one_ℚ *ℚ u) (one_ℚ *ℚ v) →
    IsNear (ratio (pos 1) 10 *ℚ (ratio (pos 3927) 2500 *ℚ d)) (one_ℚ *ℚ c) (one_ℚ *ℚ b) → zero_ℚ ≤ℚ d →
    one_ℚ -ℚ ratio (pos 1) 2 *ℚ (u *ℚ c) ≤ℚ one_ℚ -ℚ ratio (pos 1) 2 *ℚ (v *ℚ b) +ℚ ratio (pos 17) 20 *ℚ d
half_products d u v c b s s' h h' near_u near_c size =
    le_by (d ∷ u ∷ v ∷ c ∷ b ∷ [])
    (known 1 2 ⊗ (gap near_u.below ⊗ (gap h.low ⊕ known 9 10) ⊕ known 3927 2500 ⊗ not_negative size ⊗ gap h.high
    ⊕ not_negative s'.low ⊗ gap near_c.below ⊕ gap s'.high ⊗ (known 3927 25000 ⊗ not_negative size))
    ⊕ known 1614082 100000000 ⊗ not_negative size)
    (search reads depth 90) tt

-- near angles have near cosines
pub cosine_near : {d y z : ℚ} → IsAngle y → IsAngle z → IsNear d y z → IsNear (ratio (pos 17) 20 *ℚ d) (cosine_sum y) (cosine_sum z)
cosine_near {d} {y} {z} h k n =
    rw (cosine_horner y, cosine_horner z) (record { above = half h k n; below = half k h (record { above = n.below; below = n.above }) })
  where
    half : {y z : ℚ} → IsAngle y → IsAngle z → IsNear d y z →
        one_ℚ -ℚ ratio (pos 1) 2 *ℚ (y *ℚ y *ℚ cosine_rest y) ≤ℚ one_ℚ -ℚ ratio (pos 1) 2 *ℚ (z *ℚ z *ℚ cosine_rest z) +ℚ ratio (pos 17) 20 *ℚ d
    half {y} {z} h k n =
        half_products d (y *ℚ y) (z *ℚ z) (cosine_rest y) (cosine_rest z) (small_square h) (small_square k) (cosine_rest_high h) (cosine_rest_high k)
        (squares_near h k n) (cosine_rest_near one_ℚ _ y z h k (squares_near h k n)) (near_positive n)

-- cosines lie from 69/100 to 1
pub cosine_low : {y : ℚ} → IsAngle y → ratio (pos 69) 100 ≤ℚ cosine_sum y
cosine_low {y} h =
    rw (cosine_horner y)
    (le_by (y ∷ cosine_rest y ∷ [])
    (known 1 2 ⊗ (square y ⊗ gap (cosine_rest_high h).high ⊕ gap (small_square h).high) ⊕ known 3 2000)
    (search reads depth 90) tt)

-- and at most 1
pub cosine_high : {y : ℚ} → IsAngle y → cosine_sum y ≤ℚ one_ℚ
cosine_high {y} h =
    rw (cosine_horner y)
    (le_by (y ∷ cosine_rest y ∷ []) (known 1 2 ⊗ (square y ⊗ (gap (cosine_rest_high h).low ⊕ known 9 10))) (search reads depth 90) tt)
