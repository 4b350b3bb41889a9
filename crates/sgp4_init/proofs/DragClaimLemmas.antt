-- How large the drag coefficients of a set that is taken are.
use Rattle.std.proofs.Common.{◌≡◌, ℕ, sym, subst, [], ◌∷◌, ◌*◌, ◌-◌, ◌^◌, pos, negsuc}
use Rattle.exact.specs.Rational.{ℚ, ratio, zero_ℚ, one_ℚ, ◌+ℚ◌, ◌-ℚ◌, ◌*ℚ◌, ◌/ℚ◌, ◌≤ℚ◌}
use Rattle.exact.proofs.RationalRing.{ring, reads}
use Rattle.exact.proofs.Bounds.{square}
use Rattle.exact.specs.Interval.{Inside, between}
use Rattle.exact.proofs.Order.{NonNeg, ◌⊕◌, ◌⊗◌, gap, known, le_by, le_refl, not_negative, same_sign}
use Rattle.exact.proofs.Strict.{Positive, positive_inverse, positive_known, positive_weak, quotient_le}
use Rattle.sgp4_model.specs.Angle.{IsNear, part}
use Rattle.sgp4_model.specs.Density.{DensityRecord}
use Rattle.sgp4_model.specs.Drag.{DragRecord}
use Rattle.sgp4_model.specs.MeanMotion.{MotionRecord, RecoversMotion}
use Rattle.sgp4_model.proofs.Near.{near_weaken}
use Rattle.sgp4_shape.specs.Covering.{unit_minutes}
use Rattle.sgp4_init.specs.TakenMotion.{IsTakenMotion}
use Rattle.sgp4_init.proofs.BoundLemmas.{along_small, c4_small, c5_small, fourth, near_product, near_sum, oblate_small, range_of, small, weighed}
use Rattle.sgp4_init.proofs.DragLemmas.{of_c2, of_c4}
use Rattle.sgp4_init.proofs.EquationLemmas.{positive_from}
use Rattle.sgp4_init.proofs.WeightLemmas.{HasBounds, speed, weight}

module _ (m : MotionRecord) (d : DensityRecord) (recovers : RecoversMotion m) (taken : IsTakenMotion m) (bounded : HasBounds m d) where
  open bounded use {coef1_low, weight_most, eta_low, eta_below_one, xp_low, xp_most, axis_least, motion_low, motion_most, pace_low, pace_most}

  abbrev xp : ℚ
  xp = d.xi /ℚ d.psi

  abbrev pace : ℚ
  pace = m.n0 *ℚ m.a

  -- ---- the other factors
  motion_small : IsNear speed m.n0 zero_ℚ
  motion_small = small motion_low (le_by (m.n0 ∷ m.a ∷ []) (gap motion_most ⊕ gap pace_most) (search reads depth 90) tt)

  xp_small : IsNear (ratio (pos 6378135) 222000) xp zero_ℚ
  xp_small = small xp_low xp_most

  con41_small : IsNear (ratio (pos 20001) 10000) m.con41 zero_ℚ
  con41_small = subst (λ t. IsNear (ratio (pos 20001) 10000) t zero_ℚ) (sym recovers.con41_is) record {
    above = le_by (m.c ∷ []) (known 3 1 ⊗ (gap taken.cosine.above ⊗ gap taken.cosine.below) ⊕ known (2 ^ 120 - 3 * 10 ^ 4 * 2 ^ 61 - 3 * 10 ^ 4) (10 ^ 4 * 2 ^ 120)) (search reads depth 90) tt;
    below = le_by (m.c ∷ []) (known 3 1 ⊗ square m.c ⊕ known 10001 10000) (search reads depth 90) tt;
  }

  sine_square_small : IsNear (ratio (pos 10001) 10000) (ratio (pos 1) 1 -ℚ m.c *ℚ m.c) zero_ℚ
  sine_square_small = record {
    above = le_by (m.c ∷ []) (square m.c ⊕ known 1 10000) (search reads depth 90) tt;
    below = le_by (m.c ∷ []) (gap taken.cosine.above ⊗ gap taken.cosine.below ⊕ known (10001 * 2 ^ 120 - 10 ^ 4 * 2 ^ 61 - 10 ^ 4) (10 ^ 4 * 2 ^ 120)) (search reads depth 90) tt;
  }

  share_of_j2 : IsNear (ratio (pos 298) 10000) (ratio (pos 1082616) 1000000000 *ℚ xp /ℚ m.a) zero_ℚ
  share_of_j2 = small (known 1082616 1000000000 ⊗ xp_low ⊗ positive_weak (positive_inverse axis_positive))
      (quotient_le axis_positive (le_by (xp ∷ m.a ∷ []) (known 1082616 1000000000 ⊗ gap xp_most ⊕ known 298 10000 ⊗ gap axis_least ⊕ known 17885717 185000000000) (search reads depth 90) tt))
    where
      axis_positive : Positive m.a
      axis_positive = positive_from (positive_known 10470000 10000000) axis_least

  less_square_small : IsNear one_ℚ m.bb zero_ℚ
  less_square_small = subst (λ t. IsNear one_ℚ t zero_ℚ) (sym recovers.bb_is) record {
    above = le_by (m.e ∷ []) (square m.e) (search reads depth 90) tt;
    below = le_by (m.e ∷ []) (gap taken.most ⊗ (known 1 5 ⊕ not_negative taken.least) ⊕ known 49 25) (search reads depth 90) tt;
  }

  axis_small : IsNear (ratio (pos 19214) 10000) m.a zero_ℚ
  axis_small = small (same_sign (ring (m.a ∷ []) (search reads depth 90) tt) (gap axis_least ⊕ known 10470001 10000000)) (le_by (m.a ∷ []) (gap taken.axis) (search reads depth 90) tt)

  eccentricity_low : NonNeg m.e
  eccentricity_low = not_negative taken.least

  eccentricity_most : m.e ≤ℚ ratio (pos 1) 5
  eccentricity_most = le_by (m.e ∷ []) (gap taken.most) (search reads depth 90) tt

  number : (n d : ℕ) → IsNear (ratio (pos n) d) (ratio (pos n) d) zero_ℚ
  number n d = small (known n d) (le_refl _)

  -- ---- C2, C4 and C5
  c2_parts : (k n a x y z t : ℚ) →
      unit_minutes 1 *ℚ (k *ℚ x *ℚ (n *ℚ a) +ℚ ratio (pos 405981) 1000000000 *ℚ (k *ℚ y *ℚ (z *ℚ n) *ℚ t)) ≡ k *ℚ (unit_minutes 1 *ℚ n) *ℚ (a *ℚ x +ℚ ratio (pos 405981) 1000000000 *ℚ z *ℚ t *ℚ y)
  c2_parts k n a x y z t = ring (k ∷ n ∷ a ∷ x ∷ y ∷ z ∷ t ∷ []) (search reads depth 90) tt

  -- what the bounds of the factors give
  abbrev c2_bound : ℚ
  c2_bound =
      ratio (pos 16384) 1
      *ℚ (one_ℚ *ℚ weight *ℚ speed +ℚ ratio (pos 405981) 1000000000 *ℚ (ratio (pos 8) 1 *ℚ weight *ℚ (ratio (pos 6378135) 222000 *ℚ speed) *ℚ ratio (pos 20001) 10000))

  abbrev c4_bound : ℚ
  c4_bound = ratio (pos 2) 1 *ℚ ratio (pos 16384) 1 *ℚ (ratio (pos 7) 20 *ℚ weight *ℚ speed *ℚ one_ℚ)

  abbrev c5_bound : ℚ
  c5_bound = ratio (pos 2) 1 *ℚ (one_ℚ *ℚ weight *ℚ (ratio (pos 19214) 10000 *ℚ one_ℚ))

  c2_small : (g : DragRecord) → IsNear (ratio (pos 182) 100) (d.coef1 *ℚ (unit_minutes 1 *ℚ m.n0) *ℚ of_c2 m d g) zero_ℚ
  c2_small g =
      near_weaken {e = c2_bound} (le_by [] (known 1014775299323409758521 112915039062500000000000) (search reads depth 90) tt)
      (subst (λ t. IsNear c2_bound t zero_ℚ) (c2_parts d.coef1 m.n0 m.a _ _ xp m.con41)
      (near_product (number 16384 1)
      (near_sum
      (near_product (weighed (fourth d.eta) coef1_low weight_most (known 1 1) (along_small m.e d.eta eccentricity_low eccentricity_most eta_low eta_below_one)) (small pace_low pace_most))
      (near_product (number 405981 1000000000)
      (near_product (near_product (weighed (fourth d.eta) coef1_low weight_most (known 8 1) (oblate_small m.e d.eta eccentricity_low eccentricity_most eta_low eta_below_one)) (near_product xp_small motion_small)) con41_small)))))

  c4_parts : (k n a b y : ℚ) → ratio (pos 2) 1 *ℚ unit_minutes 1 *ℚ (k *ℚ y *ℚ (n *ℚ a) *ℚ b) ≡ (k *ℚ (unit_minutes 1 *ℚ n) +ℚ k *ℚ (unit_minutes 1 *ℚ n)) *ℚ (a *ℚ b) *ℚ y
  c4_parts k n a b y = ring (k ∷ n ∷ a ∷ b ∷ y ∷ []) (search reads depth 90) tt

  c4_size : (g : DragRecord) (cosine : ℚ) → IsNear (ratio (pos 10001) 10000) cosine zero_ℚ →
      IsNear (ratio (pos 107) 100) ((d.coef1 *ℚ (unit_minutes 1 *ℚ m.n0) +ℚ d.coef1 *ℚ (unit_minutes 1 *ℚ m.n0)) *ℚ m.p *ℚ of_c4 m d g cosine) zero_ℚ
  c4_size g cosine h =
      near_weaken {e = c4_bound} (le_by [] (known 1636163 976562500) (search reads depth 90) tt)
      (subst (λ t. IsNear c4_bound ((d.coef1 *ℚ (unit_minutes 1 *ℚ m.n0) +ℚ d.coef1 *ℚ (unit_minutes 1 *ℚ m.n0)) *ℚ t *ℚ of_c4 m d g cosine) zero_ℚ) (sym recovers.p_is)
      (subst (λ t. IsNear c4_bound t zero_ℚ) (c4_parts d.coef1 m.n0 m.a m.bb _)
      (near_product (near_product (number 2 1) (number 16384 1))
      (near_product
      (near_product
      (weighed (fourth d.eta) coef1_low weight_most (known 7 20) (c4_small m.e d.eta eccentricity_low eccentricity_most eta_low eta_below_one m.con41 (m.c *ℚ m.c) cosine _ con41_small sine_square_small h share_of_j2))
      (small pace_low pace_most))
      less_square_small))))

  c5_parts : (k a b y : ℚ) → ratio (pos 2) 1 *ℚ (k *ℚ y *ℚ (a *ℚ b)) ≡ (k +ℚ k) *ℚ (a *ℚ b) *ℚ y
  c5_parts k a b y = ring (k ∷ a ∷ b ∷ y ∷ []) (search reads depth 90) tt

  abbrev of_c5 : ℚ
  of_c5 = ratio (pos 1) 1 +ℚ ratio (pos 11) 4 *ℚ (d.eta *ℚ d.eta +ℚ m.e *ℚ d.eta) +ℚ m.e *ℚ d.eta *ℚ (d.eta *ℚ d.eta)

  c5_size : IsNear (ratio (pos 5) 1000) ((d.coef1 +ℚ d.coef1) *ℚ m.p *ℚ of_c5) zero_ℚ
  c5_size =
      near_weaken {e = c5_bound} (le_by [] (known 1905509 25000000000) (search reads depth 90) tt)
      (subst (λ t. IsNear c5_bound ((d.coef1 +ℚ d.coef1) *ℚ t *ℚ of_c5) zero_ℚ) (sym recovers.p_is)
      (subst (λ t. IsNear c5_bound t zero_ℚ) (c5_parts d.coef1 m.a m.bb _)
      (near_product (number 2 1)
      (near_product (weighed (fourth d.eta) coef1_low weight_most (known 1 1) (c5_small m.e d.eta eccentricity_low eccentricity_most eta_low eta_below_one)) (near_product axis_small less_square_small)))))

  -- ---- as ranges
  pub c2_inside : (g : DragRecord) → Inside (between (negsuc 181) 100 (pos 182) 100) (d.coef1 *ℚ (unit_minutes 1 *ℚ m.n0) *ℚ of_c2 m d g)
  c2_inside g = range_of 181 100 (c2_small g)

  pub c4_inside : (g : DragRecord) (cosine : ℚ) → IsNear (part 60 +ℚ one_ℚ) cosine zero_ℚ →
      Inside (between (negsuc 106) 100 (pos 107) 100) ((d.coef1 *ℚ (unit_minutes 1 *ℚ m.n0) +ℚ d.coef1 *ℚ (unit_minutes 1 *ℚ m.n0)) *ℚ m.p *ℚ of_c4 m d g cosine)
  c4_inside g cosine h = range_of 106 100 (c4_size g cosine (near_weaken (le_by [] (known (2 ^ 60 - 10 ^ 4) (10 ^ 4 * 2 ^ 60)) (search reads depth 90) tt) h))

  pub c5_inside : Inside (between (negsuc 4) 1000 (pos 5) 1000) ((d.coef1 +ℚ d.coef1) *ℚ m.p *ℚ of_c5)
  c5_inside = range_of 4 1000 c5_size
