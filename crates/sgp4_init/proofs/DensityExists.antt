-- The terms of the density exist where the perigee is high and the orbit nearly round: no divisor is 0.
use Rattle.std.proofs.Common.{◌^◌, ◌*◌, ◌-◌, sym, refl, subst, [], ◌∷◌, pos}
use Rattle.exact.specs.Rational.{ℚ, ratio, inverse, abs_ℚ, ◌+ℚ◌, ◌-ℚ◌, ◌*ℚ◌, ◌/ℚ◌, ◌^ℚ◌, one_ℚ, zero_ℚ, ◌≤ℚ◌}
use Rattle.exact.proofs.RationalRing.{ring, reads}
use Rattle.exact.proofs.Bounds.{by_sign, le_abs}
use Rattle.exact.proofs.Order.{NonNeg, ◌⊕◌, ◌⊗◌, gap, known, le_by, le_of_not_negative, le_trans, not_negative}
use Rattle.exact.proofs.Strict.{Positive, le_of_lt, not_zero, positive_inverse, positive_known, positive_product, positive_weak, quotient_le}
use Rattle.sgp4_model.specs.Density.{DensityRecord, IsDensityTerms}
use Rattle.sgp4_model.specs.MeanMotion.{MotionRecord, RecoversMotion, perigee_of}
use Rattle.sgp4_model.specs.Numerals.{decimal, whole}
use Rattle.sgp4_model.specs.Root.{IsSqrt}
use Rattle.sgp4_model.specs.Wgs72.{density_base_km, density_top_km, earth_radius_km}
use Rattle.sgp4_model.proofs.RootExists.{square_root_exists}
use Rattle.sgp4_motion.specs.declared.limits.TheConstants.{LEAST_PERIGEE_KM}
use Rattle.sgp4_init.proofs.DensityLemmas.{base, base_is}
use Rattle.sgp4_init.proofs.EquationLemmas.{positive_from}

-- a root of a number of at least 0.19 is at least 0.1
root_above : {x r : ℚ} → ratio (pos 19) 100 ≤ℚ x → IsSqrt x r → ratio (pos 1) 10 ≤ℚ r
root_above {x} {r} h root =
    by_sign (r -ℚ ratio (pos 1) 10)
    (λ n. le_by (r ∷ []) n (search reads depth 90) tt)
    (λ n. le_by (x ∷ r ∷ [])
    (known 10 1 ⊗ n ⊗ (n ⊗ (known 1 10 ⊕ gap root.root) ⊕ gap root.square.below ⊕ gap h ⊕ known (8 * 2 ^ 60 - 100) (100 * 2 ^ 60)))
    (search reads depth 90) tt)

-- the cube of a positive number is positive
positive_cube : {x : ℚ} → Positive x → Positive (x ^ℚ 3)
positive_cube {x} h = subst Positive (ring (x ∷ []) (search reads depth 90) tt) (positive_product (positive_product h h) h)

module _ (m : MotionRecord) (recovers : RecoversMotion m) (least : zero_ℚ ≤ℚ m.e) (most : m.e ≤ℚ decimal 2 1) (perigee : whole LEAST_PERIGEE_KM ≤ℚ perigee_of m) where
  abbrev above : ℚ
  above = m.a -ℚ base

  abbrev xi : ℚ
  xi = one_ℚ /ℚ above

  abbrev eta : ℚ
  eta = m.a *ℚ m.e *ℚ xi

  abbrev psi : ℚ
  psi = abs_ℚ (one_ℚ -ℚ eta ^ℚ 2)

  abbrev top_less_base : ℚ
  top_less_base = ((density_top_km -ℚ density_base_km) /ℚ earth_radius_km) ^ℚ 4

  -- the perigee stands at least 222 km above the parameter s
  radius_least : base +ℚ ratio (pos 222000) 6378135 ≤ℚ m.rp
  radius_least = le_by (m.rp ∷ []) (known 1000 6378135 ⊗ gap perigee) (search reads depth 90) tt

  -- the same of the axis and the eccentricity
  height : base +ℚ ratio (pos 222000) 6378135 ≤ℚ m.a *ℚ (one_ℚ -ℚ m.e)
  height = subst (λ t. base +ℚ ratio (pos 222000) 6378135 ≤ℚ t) recovers.rp_is radius_least

  -- the recovered axis is not negative
  axis_not_negative : NonNeg m.a
  axis_not_negative = not_negative (le_of_lt recovers.a_is.root)

  -- the axis is greater than s, so that their difference divides
  above_least : ratio (pos 222000) 6378135 ≤ℚ above
  above_least = le_by (m.a ∷ m.e ∷ []) (gap height ⊕ axis_not_negative ⊗ not_negative least) (search reads depth 90) tt

  -- so it is positive
  above_positive : Positive above
  above_positive = positive_from (positive_known 221999 6378135) above_least

  -- xi is its inverse
  xi_positive : Positive xi
  xi_positive = positive_product (positive_known 0 1) (positive_inverse above_positive)

  -- eta is not negative
  eta_least : zero_ℚ ≤ℚ eta
  eta_least = le_of_not_negative (axis_not_negative ⊗ not_negative least ⊗ positive_weak xi_positive)

  -- and at most 0.9
  eta_most : eta ≤ℚ ratio (pos 9) 10
  eta_most = subst (λ t. t ≤ℚ ratio (pos 9) 10) (ring (m.a ∷ m.e ∷ inverse above ∷ []) {x = m.a *ℚ m.e /ℚ above} {y = eta} (search reads depth 90) tt)
      (quotient_le above_positive
      (le_by (m.a ∷ m.e ∷ []) (known 7 8 ⊗ gap height ⊕ known 1 8 ⊗ (axis_not_negative ⊗ gap most) ⊕ known 1313865 255125400) (search reads depth 90) tt))

  -- psi is at least 0.19
  psi_least : ratio (pos 19) 100 ≤ℚ psi
  psi_least = le_trans
      (le_by (eta ∷ []) (gap eta_most ⊗ (known 9 10 ⊕ not_negative eta_least)) (search reads depth 90) tt)
      (le_abs (one_ℚ -ℚ eta ^ℚ 2))

  -- so psi is positive
  psi_positive : Positive psi
  psi_positive = positive_from (positive_known 18 100) psi_least

  -- the record for a root of psi
  abbrev density_record : ℚ → DensityRecord
  density_record root = record {
    s = base;
    qs = top_less_base;
    xi = xi;
    eta = eta;
    psi = psi;
    root_of_psi = root;
    coef = top_less_base *ℚ xi ^ℚ 4;
    coef1 = top_less_base *ℚ xi ^ℚ 4 /ℚ (psi ^ℚ 3 *ℚ root);
  }

  -- it meets the lines of the density
  density_terms : (root : ℚ) → IsSqrt psi root → IsDensityTerms m (density_record root)
  density_terms root is_root = record {
    s_is = sym base_is;
    qs_is = refl;
    a_less_s_divides = not_zero above_positive;
    xi_is = refl;
    eta_is = refl;
    psi_is = refl;
    coef_is = refl;
    root_of_psi_is = is_root;
    psi_divides = not_zero (positive_product (positive_cube psi_positive) (positive_from (positive_known 0 10) (root_above psi_least is_root)));
    coef1_is = refl;
  }

  -- the terms, with xi and psi above 0
  pub density_exists : (d : DensityRecord) × (IsDensityTerms m d × Positive d.xi × Positive d.psi)
  density_exists =
      let root = square_root_exists psi (le_trans (le_by [] (known 19 100) (search reads depth 90) tt) psi_least) in
      (density_record root.0, (density_terms root.0 root.1, xi_positive, psi_positive))
