-- The sums at two reduced angles, whose quarter turns are the same or differ by one, are on slope; they never differ by more.
use Rattle.std.proofs.Common.{◌≡◌, ◌^◌, [], ◌∷◌, subst, refl}
use lib.IntN.{pos}
use Rattle.exact.specs.Rational.{ℚ, ◌+ℚ◌, ◌-ℚ◌, ◌*ℚ◌, neg_ℚ, at_least_0, ratio, one_ℚ, zero_ℚ, ◌≤ℚ◌}
use Rattle.exact.proofs.RationalRing.{ring, reads}
use Rattle.exact.proofs.Order.{◌⊕◌, ◌⊗◌, gap, known, le_by, not_negative}
use Rattle.sgp4_model.specs.AngleSums.{sine_sum, cosine_sum}
use Rattle.sgp4_model.specs.Angle.{IsPi, IsNear, IsReduced, turned}
use Rattle.sgp4_model.proofs.Near.{near_positive, near_weaken}
use Rattle.sgp4_model.proofs.Horner.{sine_neg, cosine_neg}
use Rattle.sgp4_model.proofs.AngleSpan.{sums, reduced_angle}
use Rattle.sgp4_model.proofs.FarQuarters.{pi_above_3}
use Rattle.sgp4_model.proofs.SineSlope.{sine_slope}
use Rattle.sgp4_model.proofs.CosineSlope.{cosine_slope}
use Rattle.sgp4_model.proofs.OnSlope.{IsOnSlope}
use Rattle.sgp4_model.proofs.TieSlope.{slack, way_on, next_slope}

-- a pi, two reduced angles, and the step between the angles that they come from, which is at most b
pub record IsStep (pi b d y z : ℚ) : Type 0 where
  pub is_pi : IsPi pi
  pub first : IsReduced pi y
  pub second : IsReduced pi z
  pub size : IsNear b d zero_ℚ
  pub short : b ≤ℚ one_ℚ

module _ {pi b d y z : ℚ} (h : IsStep pi b d y z) where
  -- the same number of quarter turns
  pub same_quarter : d ≡ z -ℚ y → IsOnSlope (slack b d) d (sums y) (sums z)
  same_quarter e = rw e (record {
    sine = near_weaken (le_by (b ∷ y ∷ z ∷ []) (not_negative (near_positive h.size) ⊗ known 1 (2 ^ 63) ⊕ known 2 (2 ^ 66)) (search reads depth 90) tt)
        (sine_slope (reduced_angle h.is_pi h.first) (reduced_angle h.is_pi h.second));
    cosine = near_weaken (le_by (b ∷ y ∷ z ∷ []) (known 2 (2 ^ 66)) (search reads depth 90) tt)
        (cosine_slope (reduced_angle h.is_pi h.first) (reduced_angle h.is_pi h.second) (subst (λ t. IsNear b t zero_ℚ) e h.size));
  })

  -- one more
  pub next_quarter : d ≡ way_on pi y z → IsOnSlope (slack b d) d (sums y) (turned 1 (sums z))
  next_quarter e = rw e (next_slope h.is_pi h.first h.second (subst (λ t. t ≤ℚ b) e at_most) h.short)
    where
      at_most : d ≤ℚ b
      at_most = le_by (b ∷ d ∷ []) (gap h.size.above) (search reads depth 90) tt

-- the opposite of a reduced angle is one
mirrored_range : {pi y : ℚ} → IsReduced pi y → IsReduced pi (neg_ℚ y)
mirrored_range {pi} {y} h =
    record {
      low = le_by (pi ∷ y ∷ []) (gap h.high) (search reads depth 90) tt;
      high = le_by (pi ∷ y ∷ []) (gap h.low) (search reads depth 90) tt;
    }

-- a step of opposite angles is one back
mirrored_step : {pi b d y z : ℚ} → IsStep pi b d y z → IsStep pi b (neg_ℚ d) (neg_ℚ y) (neg_ℚ z)
mirrored_step {pi} {b} {d} {y} {z} h =
    record {
      is_pi = h.is_pi;
      first = mirrored_range h.first;
      second = mirrored_range h.second;
      size = record {
        above = le_by (b ∷ d ∷ []) (gap h.size.below) (search reads depth 90) tt;
        below = le_by (b ∷ d ∷ []) (gap h.size.above) (search reads depth 90) tt;
      };
      short = h.short;
    }

-- pairs (-s, c) and (a, t) on slope, mirrored
mirrored_slope : (b d s c t a : ℚ) →
    IsOnSlope (slack b (neg_ℚ d)) (neg_ℚ d) (record { sine = neg_ℚ s; cosine = c }) (turned 1 (record { sine = neg_ℚ t; cosine = a })) →
    IsOnSlope (slack b d) d (turned 1 (record { sine = s; cosine = c })) (record { sine = t; cosine = a })
unfolding turned
mirrored_slope b d s c t a h =
    record {
      sine = record {
        above = le_by (b ∷ d ∷ s ∷ c ∷ t ∷ []) (gap h.cosine.above) (search reads depth 90) tt;
        below = le_by (b ∷ d ∷ s ∷ c ∷ t ∷ []) (gap h.cosine.below) (search reads depth 90) tt;
      };
      cosine = record {
        above = le_by (b ∷ d ∷ s ∷ c ∷ a ∷ []) (gap h.sine.above) (search reads depth 90) tt;
        below = le_by (b ∷ d ∷ s ∷ c ∷ a ∷ []) (gap h.sine.below) (search reads depth 90) tt;
      };
    }

-- the sums of the opposite angle
sums_neg : (y : ℚ) → sums (neg_ℚ y) ≡ record { sine = neg_ℚ (sine_sum y); cosine = cosine_sum y }
sums_neg y = rw (sine_neg y, cosine_neg y) refl

-- one quarter turn less: by the opposite angles
pub last_quarter : {pi b d y z : ℚ} → IsStep pi b d y z → neg_ℚ d ≡ way_on pi (neg_ℚ y) (neg_ℚ z) → IsOnSlope (slack b d) d (turned 1 (sums y)) (sums z)
last_quarter {pi} {b} {d} {y} {z} h e =
    mirrored_slope b d (sine_sum y) (cosine_sum y) (sine_sum z) (cosine_sum z) (rw (sums_neg y, sums_neg z) at (next_quarter (mirrored_step h) e))

-- a step of 3/2 is not at most 1
too_far : ratio (pos 3) 2 ≤ℚ one_ℚ → ⊥
unfolding ratio at_least_0 ◌+ℚ◌ neg_ℚ
too_far h = h.le

-- two or more quarter turns more: the step is more than 1
pub far_on : {pi b d y z n : ℚ} → IsStep pi b d y z → ratio (pos 2) 1 ≤ℚ n → d ≡ z -ℚ y +ℚ n *ℚ (ratio (pos 1) 2 *ℚ pi) → ⊥
far_on {pi} {b} {d} {y} {z} {n} h l e =
    too_far
    (le_by (pi ∷ y ∷ z ∷ n ∷ [])
    (gap (subst (λ t. t ≤ℚ one_ℚ) e at_most) ⊕ gap h.second.low ⊕ gap h.first.high
    ⊕ gap l ⊗ (known 1 2 ⊗ (gap (pi_above_3 h.is_pi) ⊕ known 3 1)) ⊕ known 1 2 ⊗ gap (pi_above_3 h.is_pi))
    (search reads depth 90) tt)
  where
    at_most : d ≤ℚ one_ℚ
    at_most = le_by (b ∷ d ∷ []) (gap h.size.above ⊕ gap h.short) (search reads depth 90) tt

-- or less
pub far_back : {pi b d y z n : ℚ} → IsStep pi b d y z → ratio (pos 2) 1 ≤ℚ n → d ≡ z -ℚ y -ℚ n *ℚ (ratio (pos 1) 2 *ℚ pi) → ⊥
far_back {pi} {b} {d} {y} {z} {n} h l e =
    far_on {n = n} (mirrored_step h) l (rw e (ring (pi ∷ y ∷ z ∷ n ∷ []) (search reads depth 90) tt))
