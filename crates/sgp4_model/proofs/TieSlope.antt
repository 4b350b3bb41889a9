-- The slopes of the sums across an eighth of a turn, where the number of quarter turns changes.
use Rattle.std.proofs.Common.{◌^◌, [], ◌∷◌, pos}
use Rattle.exact.specs.Rational.{ℚ, ◌+ℚ◌, ◌-ℚ◌, ◌*ℚ◌, neg_ℚ, ratio, one_ℚ, zero_ℚ, ◌≤ℚ◌}
use Rattle.exact.proofs.RationalRing.{reads}
use Rattle.exact.proofs.Order.{◌⊕◌, ◌⊗◌, gap, known, le_by, not_negative}
use Rattle.sgp4_model.specs.AngleSums.{sine_sum, cosine_sum}
use Rattle.sgp4_model.specs.Angle.{IsPi, IsNear, IsReduced, part, turned}
use Rattle.sgp4_model.proofs.Horner.{sine_neg, cosine_neg}
use Rattle.sgp4_model.proofs.SineLaws.{sine_near}
use Rattle.sgp4_model.proofs.TieValue.{pi_angle, tie_near}
use Rattle.sgp4_model.proofs.AngleSpan.{sums, reduced_angle, pi_angle_neg, near_gap, near_cosine}
use Rattle.sgp4_model.proofs.SineSlope.{sine_slope}
use Rattle.sgp4_model.proofs.CosineSlope.{cosine_slope}
use Rattle.sgp4_model.proofs.OnSlope.{IsOnSlope}

-- what the sums may differ from their slopes by, for a step d that is at most b in size
abbrev pub slack : ℚ → ℚ → ℚ
slack b d = ratio (pos 1) 2 *ℚ (d *ℚ d) +ℚ (b *ℚ part 63 +ℚ ratio (pos 2) 1 *ℚ part 66)

-- two steps a and b, the second at most 1, which together are at most w
record IsWay (a b w : ℚ) : Type 0 where
  first : zero_ℚ ≤ℚ a
  second : zero_ℚ ≤ℚ b
  short : b ≤ℚ one_ℚ
  together : a +ℚ b ≤ℚ w

-- From (s, c) by a step a to the tie (u, v), and by a step b to the sine g: u and v are nearly equal.
across_sine : {a b w : ℚ} (s c u v g : ℚ) → IsWay a b w →
    IsNear (ratio (pos 1) 2 *ℚ (a *ℚ a)) u (s +ℚ a *ℚ c) → IsNear (ratio (pos 1) 2 *ℚ (b *ℚ b) +ℚ b *ℚ part 63) g (v -ℚ b *ℚ neg_ℚ u) →
    IsNear (part 66) u v → IsNear a c v → IsNear (slack w (a +ℚ b)) g (s +ℚ (a +ℚ b) *ℚ c)
across_sine {a} {b} {w} s c u v g way h k tie n =
    record {
      above = le_by (a ∷ b ∷ w ∷ s ∷ c ∷ u ∷ v ∷ g ∷ [])
          (gap h.above ⊕ gap k.above ⊕ gap tie.below ⊕ not_negative way.second ⊗ (gap tie.above ⊕ gap n.below)
          ⊕ gap way.short ⊗ known 1 (2 ^ 66) ⊕ (gap way.together ⊕ not_negative way.first) ⊗ known 1 (2 ^ 63))
          (search reads depth 90) tt;
      below = le_by (a ∷ b ∷ w ∷ s ∷ c ∷ u ∷ v ∷ g ∷ [])
          (gap h.below ⊕ gap k.below ⊕ gap tie.above ⊕ not_negative way.second ⊗ (gap tie.below ⊕ gap n.above)
          ⊕ gap way.short ⊗ known 1 (2 ^ 66) ⊕ (gap way.together ⊕ not_negative way.first) ⊗ known 1 (2 ^ 63))
          (search reads depth 90) tt;
    }

-- the same to the cosine, which is the opposite of g
across_cosine : {a b w : ℚ} (s c u v g : ℚ) → IsWay a b w →
    IsNear (ratio (pos 1) 2 *ℚ (a *ℚ a) +ℚ a *ℚ part 63) v (c -ℚ a *ℚ s) → IsNear (ratio (pos 1) 2 *ℚ (b *ℚ b)) g (neg_ℚ u +ℚ b *ℚ v) →
    IsNear (part 66) u v → IsNear a s u → IsNear (slack w (a +ℚ b)) (neg_ℚ g) (c -ℚ (a +ℚ b) *ℚ s)
across_cosine {a} {b} {w} s c u v g way h k tie n =
    record {
      above = le_by (a ∷ b ∷ w ∷ s ∷ c ∷ u ∷ v ∷ g ∷ [])
          (gap h.above ⊕ gap k.below ⊕ gap tie.above ⊕ not_negative way.second ⊗ (gap tie.above ⊕ gap n.above)
          ⊕ gap way.short ⊗ known 1 (2 ^ 66) ⊕ (gap way.together ⊕ not_negative way.second) ⊗ known 1 (2 ^ 63))
          (search reads depth 90) tt;
      below = le_by (a ∷ b ∷ w ∷ s ∷ c ∷ u ∷ v ∷ g ∷ [])
          (gap h.below ⊕ gap k.above ⊕ gap tie.below ⊕ not_negative way.second ⊗ (gap tie.below ⊕ gap n.below)
          ⊕ gap way.short ⊗ known 1 (2 ^ 66) ⊕ (gap way.together ⊕ not_negative way.second) ⊗ known 1 (2 ^ 63))
          (search reads depth 90) tt;
    }

-- an eighth of a turn
abbrev eighth : ℚ → ℚ
eighth pi = ratio (pos 1) 4 *ℚ pi

-- from y up to an eighth of a turn, and from its other end up to z
abbrev pub way_on : ℚ → ℚ → ℚ → ℚ
way_on pi y z = eighth pi -ℚ y +ℚ (z -ℚ neg_ℚ (eighth pi))

-- a step to a larger angle is no larger than itself
step_size : {y z : ℚ} → y ≤ℚ z → IsNear (z -ℚ y) (z -ℚ y) zero_ℚ
step_size {y} {z} h =
    record {
      above = le_by (y ∷ z ∷ []) (known 0 1) (search reads depth 90) tt;
      below = le_by (y ∷ z ∷ []) (known 2 1 ⊗ gap h) (search reads depth 90) tt;
    }

module _ {pi b y z : ℚ} (g : IsPi pi) (h : IsReduced pi y) (k : IsReduced pi z) (l : way_on pi y z ≤ℚ b) (m : b ≤ℚ one_ℚ) where
  -- both steps
  way : IsWay (eighth pi -ℚ y) (z -ℚ neg_ℚ (eighth pi)) b
  way =
      record {
        first = le_by (pi ∷ y ∷ []) (gap h.high) (search reads depth 90) tt;
        second = le_by (pi ∷ z ∷ []) (gap k.low) (search reads depth 90) tt;
        short = le_by (pi ∷ b ∷ y ∷ z ∷ []) (gap l ⊕ gap m ⊕ gap h.high) (search reads depth 90) tt;
        together = l;
      }

  -- the sine of the second angle, which is the cosine of z
  sine_across : IsNear (slack b (way_on pi y z)) (cosine_sum z) (sine_sum y +ℚ way_on pi y z *ℚ cosine_sum y)
  sine_across =
      across_sine (sine_sum y) (cosine_sum y) (sine_sum (eighth pi)) (cosine_sum (eighth pi)) (cosine_sum z) way
      (sine_slope (reduced_angle g h) (pi_angle g))
      (rw (sine_neg (eighth pi), cosine_neg (eighth pi)) at (cosine_slope (pi_angle_neg g) (reduced_angle g k) (step_size k.low)))
      (tie_near g g) (near_cosine (reduced_angle g h) (pi_angle g) h.high)

  -- the cosine, which is the opposite of the sine of z
  cosine_across : IsNear (slack b (way_on pi y z)) (neg_ℚ (sine_sum z)) (cosine_sum y -ℚ way_on pi y z *ℚ sine_sum y)
  cosine_across =
      across_cosine (sine_sum y) (cosine_sum y) (sine_sum (eighth pi)) (cosine_sum (eighth pi)) (sine_sum z) way
      (cosine_slope (reduced_angle g h) (pi_angle g) (step_size h.high))
      (rw (sine_neg (eighth pi), cosine_neg (eighth pi)) at (sine_slope (pi_angle_neg g) (reduced_angle g k)))
      (tie_near g g) (sine_near (reduced_angle g h) (pi_angle g) (near_gap h.high))

  -- one quarter turn more
  pub next_slope : IsOnSlope (slack b (way_on pi y z)) (way_on pi y z) (sums y) (turned 1 (sums z))
  unfolding turned
  next_slope = record { sine = sine_across; cosine = cosine_across }
