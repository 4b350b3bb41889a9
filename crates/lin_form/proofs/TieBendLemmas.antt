-- The parabolas of the sums across an eighth of a turn, where the number of quarter turns changes.
use Rattle.std.proofs.Common.{◌^◌, [], ◌∷◌, pos}
use Rattle.exact.specs.Rational.{ℚ, ◌+ℚ◌, ◌-ℚ◌, ◌*ℚ◌, neg_ℚ, ratio, one_ℚ, zero_ℚ, ◌≤ℚ◌}
use Rattle.exact.proofs.RationalRing.{ring, reads}
use Rattle.exact.proofs.Order.{NonNeg, ◌⊕◌, ◌⊗◌, gap, known, le_by, not_negative}
use Rattle.sgp4_model.specs.AngleSums.{sine_sum, cosine_sum}
use Rattle.sgp4_model.specs.Angle.{IsPi, IsNear, IsReduced, part, turned}
use Rattle.sgp4_model.proofs.Horner.{sine_neg, cosine_neg}
use Rattle.sgp4_model.proofs.Near.{near_neg, near_sym, near_weaken}
use Rattle.sgp4_model.proofs.SineLaws.{sine_near}
use Rattle.sgp4_model.proofs.TieValue.{pi_angle, tie_near}
use Rattle.sgp4_model.proofs.AngleSpan.{sums, reduced_angle, pi_angle_neg, near_gap, near_cosine}
use Rattle.sgp4_model.proofs.SineSlope.{sine_slope}
use Rattle.sgp4_model.proofs.CosineSlope.{cosine_slope}
use Rattle.sgp4_model.proofs.PairLaws.{neg_neg}
use Rattle.sgp4_model.proofs.TieSlope.{way_on}
use Rattle.lin_form.specs.Bend.{ahead, half_square}
use Rattle.lin_form.proofs.AheadLemmas.{cube_le, cut_off, near_same}
use Rattle.lin_form.proofs.SineBendLemmas.{sine_ahead}
use Rattle.lin_form.proofs.CosineBendLemmas.{cosine_ahead}
use Rattle.lin_form.proofs.OnBendLemmas.{IsOnBend}

-- a sixth of a cube
abbrev pub sixth_cube : ℚ → ℚ
sixth_cube b = ratio (pos 1) 6 *ℚ (b *ℚ b *ℚ b)

-- what the sums may differ from their parabolas by, for a step that is at most b in size
abbrev pub spare : ℚ → ℚ
spare b = sixth_cube b +ℚ part 56

-- two steps a and b, each at most 1, which together are at most w
record IsWay (a b w : ℚ) : Type 0 where
  first : zero_ℚ ≤ℚ a
  second : zero_ℚ ≤ℚ b
  first_short : a ≤ℚ one_ℚ
  second_short : b ≤ℚ one_ℚ
  together : a +ℚ b ≤ℚ w

-- what the steps may differ by that is no cube
abbrev steps_off : ℚ → ℚ → ℚ
steps_off a b =
    cut_off +ℚ cut_off +ℚ b *ℚ (a *ℚ part 63) +ℚ part 66 +ℚ b *ℚ part 66 +ℚ half_square b *ℚ part 66

-- that is at most 2^-56
steps_off_small : {a b w : ℚ} → IsWay a b w → steps_off a b ≤ℚ part 56
steps_off_small {a} {b} way =
    le_by (a ∷ b ∷ [])
    ((gap way.second_short ⊕ second ⊗ gap way.first_short) ⊗ known 1 (2 ^ 63) ⊕ gap way.second_short ⊗ known 1 (2 ^ 66)
    ⊕ known 1 (2 ^ 67) ⊗ (gap way.second_short ⊗ (second ⊕ known 1 1)) ⊕ known 1003 (2 ^ 67))
    (search reads depth 90) tt
  where
    second : NonNeg b
    second = not_negative way.second

-- a sixth of the cube of both steps is at most that of w
cubes_small : {a b w : ℚ} → IsWay a b w → sixth_cube (a +ℚ b) ≤ℚ sixth_cube w
cubes_small {a} {b} {w} way =
    le_by (a ∷ b ∷ w ∷ []) (known 1 6 ⊗ gap (cube_le both way.together)) (search reads depth 90) tt
  where
    both : zero_ℚ ≤ℚ a +ℚ b
    both = le_by (a ∷ b ∷ []) (not_negative way.first ⊕ not_negative way.second) (search reads depth 90) tt

-- A number s with the slope c comes by a step a to u with the slope v, which are nearly p and q, and by a step b to g.
steps : {a b w : ℚ} (s c u v p q g : ℚ) → IsWay a b w →
    IsNear (sixth_cube a +ℚ cut_off) u (ahead a s c) → IsNear (half_square a +ℚ a *ℚ part 63) v (c -ℚ a *ℚ s) →
    IsNear a s u → IsNear (part 66) p u → IsNear (part 66) q v → IsNear (sixth_cube b +ℚ cut_off) g (ahead b p q) →
    IsNear (sixth_cube (a +ℚ b) +ℚ steps_off a b) g (ahead (a +ℚ b) s c)
steps {a} {b} {w} s c u v p q g way near slope close tie turn far =
    record {
      above = le_by (a ∷ b ∷ s ∷ c ∷ u ∷ v ∷ p ∷ q ∷ g ∷ [])
          (gap far.above ⊕ gap tie.above ⊕ second ⊗ gap turn.above ⊕ known 1 2 ⊗ second ⊗ second ⊗ gap tie.below
          ⊕ gap near.above ⊕ second ⊗ gap slope.above ⊕ known 1 2 ⊗ second ⊗ second ⊗ gap close.above)
          (search reads depth 90) tt;
      below = le_by (a ∷ b ∷ s ∷ c ∷ u ∷ v ∷ p ∷ q ∷ g ∷ [])
          (gap far.below ⊕ gap tie.below ⊕ second ⊗ gap turn.below ⊕ known 1 2 ⊗ second ⊗ second ⊗ gap tie.above
          ⊕ gap near.below ⊕ second ⊗ gap slope.below ⊕ known 1 2 ⊗ second ⊗ second ⊗ gap close.below)
          (search reads depth 90) tt;
    }
  where
    second : NonNeg b
    second = not_negative way.second

-- the same, where both steps together are at most w
across : {a b w : ℚ} (s c u v p q g : ℚ) → IsWay a b w →
    IsNear (sixth_cube a +ℚ cut_off) u (ahead a s c) → IsNear (half_square a +ℚ a *ℚ part 63) v (c -ℚ a *ℚ s) →
    IsNear a s u → IsNear (part 66) p u → IsNear (part 66) q v → IsNear (sixth_cube b +ℚ cut_off) g (ahead b p q) →
    IsNear (spare w) g (ahead (a +ℚ b) s c)
across {a} {b} {w} s c u v p q g way near slope close tie turn far =
    near_weaken (le_by (a ∷ b ∷ w ∷ []) (gap (cubes_small way) ⊕ gap (steps_off_small way)) (search reads depth 90) tt)
    (steps s c u v p q g way near slope close tie turn far)

-- an eighth of a turn
abbrev eighth : ℚ → ℚ
eighth pi = ratio (pos 1) 4 *ℚ pi

-- a step to a larger angle is no larger than itself
step_size : {y z : ℚ} → y ≤ℚ z → IsNear (z -ℚ y) (z -ℚ y) zero_ℚ
step_size {y} {z} h = record {
  above = le_by (y ∷ z ∷ []) (known 0 1) (search reads depth 90) tt;
  below = le_by (y ∷ z ∷ []) (known 2 1 ⊗ gap h) (search reads depth 90) tt;
}

-- the slope of the opposite, with a little more left
opposite_slope : {t : ℚ} (a s c : ℚ) → zero_ℚ ≤ℚ a → IsNear (half_square a) t (s +ℚ a *ℚ c) →
    IsNear (half_square a +ℚ a *ℚ part 63) (neg_ℚ t) (neg_ℚ s -ℚ a *ℚ c)
opposite_slope {t} a s c p n = record {
  above = le_by (a ∷ s ∷ t ∷ c ∷ []) (gap n.below ⊕ not_negative p ⊗ known 1 (2 ^ 63)) (search reads depth 90) tt;
  below = le_by (a ∷ s ∷ t ∷ c ∷ []) (gap n.above ⊕ not_negative p ⊗ known 1 (2 ^ 63)) (search reads depth 90) tt;
}

-- the opposite of what comes from an opposite
opposite_ahead : {e g : ℚ} (b p q : ℚ) → IsNear e g (ahead b (neg_ℚ p) q) → IsNear e (neg_ℚ g) (ahead b p (neg_ℚ q))
opposite_ahead b p q n = near_same _ (ring (b ∷ p ∷ q ∷ []) (search reads depth 90) tt) (near_neg n)

module _ {pi b y z : ℚ} (g : IsPi pi) (h : IsReduced pi y) (k : IsReduced pi z)
    (l : way_on pi y z ≤ℚ b) (m : b ≤ℚ one_ℚ) where
  -- both steps
  way : IsWay (eighth pi -ℚ y) (z -ℚ neg_ℚ (eighth pi)) b
  way = record {
    first = le_by (pi ∷ y ∷ []) (gap h.high) (search reads depth 90) tt;
    second = le_by (pi ∷ z ∷ []) (gap k.low) (search reads depth 90) tt;
    first_short = le_by (pi ∷ b ∷ y ∷ z ∷ []) (gap l ⊕ gap m ⊕ gap k.low) (search reads depth 90) tt;
    second_short = le_by (pi ∷ b ∷ y ∷ z ∷ []) (gap l ⊕ gap m ⊕ gap h.high) (search reads depth 90) tt;
    together = l;
  }

  -- the sine of the second angle, which is the cosine of z
  sine_across : IsNear (spare b) (cosine_sum z) (ahead (way_on pi y z) (sine_sum y) (cosine_sum y))
  sine_across =
      across (sine_sum y) (cosine_sum y) (sine_sum (eighth pi)) (cosine_sum (eighth pi))
      (cosine_sum (eighth pi)) (sine_sum (eighth pi)) (cosine_sum z) way
      (sine_ahead (reduced_angle g h) (pi_angle g) (step_size h.high) way.first_short)
      (cosine_slope (reduced_angle g h) (pi_angle g) (step_size h.high))
      (sine_near (reduced_angle g h) (pi_angle g) (near_gap h.high)) (near_sym (tie_near g g)) (tie_near g g)
      (rw (sine_neg (eighth pi), cosine_neg (eighth pi), neg_neg (sine_sum (eighth pi))) at
      (cosine_ahead (pi_angle_neg g) (reduced_angle g k) (step_size k.low) way.second_short))

  -- the cosine, which is the opposite of the sine of z
  cosine_across : IsNear (spare b) (neg_ℚ (sine_sum z)) (ahead (way_on pi y z) (cosine_sum y) (neg_ℚ (sine_sum y)))
  cosine_across =
      across (cosine_sum y) (neg_ℚ (sine_sum y)) (cosine_sum (eighth pi)) (neg_ℚ (sine_sum (eighth pi)))
      (sine_sum (eighth pi)) (neg_ℚ (cosine_sum (eighth pi))) (neg_ℚ (sine_sum z)) way
      (cosine_ahead (reduced_angle g h) (pi_angle g) (step_size h.high) way.first_short)
      (opposite_slope _ (sine_sum y) (cosine_sum y) way.first (sine_slope (reduced_angle g h) (pi_angle g)))
      (near_cosine (reduced_angle g h) (pi_angle g) h.high) (tie_near g g) (near_neg (near_sym (tie_near g g)))
      (opposite_ahead _ _ _ (rw (sine_neg (eighth pi), cosine_neg (eighth pi)) at
      (sine_ahead (pi_angle_neg g) (reduced_angle g k) (step_size k.low) way.second_short)))

  -- one quarter turn more
  pub next_bend : IsOnBend (spare b) (way_on pi y z) (sums y) (turned 1 (sums z))
  unfolding turned
  next_bend = record { sine = sine_across; cosine = cosine_across }
