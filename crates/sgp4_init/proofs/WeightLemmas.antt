-- The density's weight, and the mean motion times the semimajor axis, for a set that is taken.
use Rattle.std.proofs.Common.{◌≡◌, sym, ap, ◌∙◌, subst, [], ◌∷◌, ◌^◌, pos}
use Rattle.exact.specs.Rational.{ℚ, ratio, inverse, neg_ℚ, zero_ℚ, one_ℚ, ◌+ℚ◌, ◌-ℚ◌, ◌*ℚ◌, ◌/ℚ◌, ◌≤ℚ◌}
use Rattle.exact.proofs.RationalRing.{ring, reads}
use Rattle.exact.proofs.Bounds.{by_sign, square}
use Rattle.exact.proofs.Order.{NonNeg, ◌⊕◌, ◌⊗◌, gap, known, le_by, same_sign}
use Rattle.exact.proofs.Strict.{Positive, mul_inverse, not_both, positive_by, positive_gap, positive_inverse, positive_known, positive_product, positive_weak, quotient_le}
use Rattle.sgp4_model.specs.Angle.{IsNear, part}
use Rattle.sgp4_model.specs.Density.{DensityRecord, IsDensityTerms}
use Rattle.sgp4_model.specs.MeanMotion.{MotionRecord, RecoversMotion}
use Rattle.sgp4_model.specs.Wgs72.{ke}
use Rattle.sgp4_init.specs.TakenMotion.{IsTakenMotion}
use Rattle.sgp4_init.proofs.BoundLemmas.{fourth, near_product, small}
use Rattle.sgp4_init.proofs.DensityLemmas.{above_divides, above_positive, base, coef1_is, eta_is, eta_least, eta_most, low_is, low_least, low_positive, part_of_radius, product_not_negative, psi_over_root, psi_positive, root_positive, sum_divides, sum_positive, xp_is}
use Rattle.sgp4_init.proofs.EquationLemmas.{equal_by, none, ◌⊞◌}

-- A bound of the density's weight, and one of n0 a.
abbrev pub weight : ℚ
weight = ratio (pos 12813) 10000000

abbrev pub speed : ℚ
speed = ratio (pos 727) 10000

-- the factors of the drag coefficients, as they are bounded
pub record HasBounds (m : MotionRecord) (d : DensityRecord) : Type 0 where
  pub coef1_low : NonNeg d.coef1
  pub weight_most : d.coef1 *ℚ fourth d.eta ≤ℚ weight
  pub eta_low : NonNeg d.eta
  pub eta_below_one : d.eta ≤ℚ one_ℚ
  pub xp_low : NonNeg (d.xi /ℚ d.psi)
  pub xp_most : d.xi /ℚ d.psi ≤ℚ ratio (pos 6378135) 222000
  pub axis_least : ratio (pos 10470001) 10000000 ≤ℚ m.a
  pub motion_low : NonNeg m.n0
  pub motion_most : m.n0 ≤ℚ m.n0 *ℚ m.a
  pub pace_low : NonNeg (m.n0 *ℚ m.a)
  pub pace_most : m.n0 *ℚ m.a ≤ℚ speed

module _ (m : MotionRecord) (d : DensityRecord) (recovers : RecoversMotion m) (taken : IsTakenMotion m) (terms : IsDensityTerms m d) where
  abbrev low : ℚ
  low = m.rp -ℚ base

  abbrev above : ℚ
  above = m.a -ℚ base

  abbrev product : ℚ
  product = m.e *ℚ m.a

  abbrev xp : ℚ
  xp = d.xi /ℚ d.psi

  -- ---- xi over psi
  xp_times : xp *ℚ (one_ℚ +ℚ d.eta) ≡ inverse low
  xp_times =
      ap (λ t. t *ℚ (one_ℚ +ℚ d.eta)) (sym (xp_is m d recovers taken terms))
      ∙ ap (λ t. above /ℚ (above +ℚ product) /ℚ low *ℚ (one_ℚ +ℚ t)) (sym (eta_is m d recovers taken terms))
      ∙ equal_by (m.a ∷ m.e ∷ inverse above ∷ inverse (above +ℚ product) ∷ inverse low ∷ [])
      (none (mul_inverse above (above_divides m d recovers taken terms)) (inverse low *ℚ inverse (above +ℚ product) *ℚ product)
      ⊞ none (mul_inverse (above +ℚ product) (sum_divides m d recovers taken terms)) (inverse low))
      (search reads depth 90) tt

  inverse_low : NonNeg (inverse low)
  inverse_low = positive_weak (positive_inverse (low_positive m d recovers taken terms))

  inverse_most : inverse low ≤ℚ ratio (pos 6378135) 222000
  inverse_most = subst (λ t. t ≤ℚ ratio (pos 6378135) 222000) (ring (inverse low ∷ []) {x = one_ℚ /ℚ low} {y = inverse low} (search reads depth 90) tt)
      (quotient_le (low_positive m d recovers taken terms) (le_by (m.rp ∷ []) (known 6378135 222000 ⊗ gap (low_least m d recovers taken terms)) (search reads depth 90) tt))

  xp_low : NonNeg xp
  xp_low = subst NonNeg (xp_is m d recovers taken terms)
      (positive_weak (positive_product (positive_product (above_positive m d recovers taken terms) (positive_inverse (sum_positive m d recovers taken terms))) (positive_inverse (low_positive m d recovers taken terms))))

  eta_low : NonNeg d.eta
  eta_low = same_sign (ring (d.eta ∷ []) (search reads depth 90) tt) (gap (eta_least m d recovers taken terms))

  xp_most : xp ≤ℚ ratio (pos 6378135) 222000
  xp_most = le_by (xp ∷ d.eta ∷ inverse low ∷ []) (gap inverse_most ⊕ same_sign larger (xp_low ⊗ eta_low)) (search reads depth 90) tt
    where
      larger : xp *ℚ d.eta ≡ inverse low -ℚ xp
      larger = ring (xp ∷ d.eta ∷ []) {y = xp *ℚ (one_ℚ +ℚ d.eta) -ℚ xp} (search reads depth 90) tt ∙ ap (λ t. t -ℚ xp) xp_times

  -- ---- the density's weight
  abbrev share : ℚ
  share = part_of_radius *ℚ inverse low

  share_most : share ≤ℚ ratio (pos 7) 37
  share_most = le_by (inverse low ∷ []) (known 42000 6378135 ⊗ gap inverse_most) (search reads depth 90) tt

  share_low : NonNeg share
  share_low = known 42000 6378135 ⊗ inverse_low

  over_root : NonNeg (d.psi /ℚ d.root_of_psi)
  over_root = positive_weak (positive_product (psi_positive m d recovers taken terms) (positive_inverse (root_positive m d recovers taken terms)))

  over_root_most : d.psi /ℚ d.root_of_psi ≤ℚ ratio (pos 10001) 10000
  over_root_most = quotient_le (root_positive m d recovers taken terms) (psi_over_root m d recovers taken terms)

  weight_is : share *ℚ share *ℚ (share *ℚ share) *ℚ (d.psi /ℚ d.root_of_psi) ≡ d.coef1 *ℚ fourth d.eta
  weight_is =
      ap (λ t. part_of_radius *ℚ t *ℚ (part_of_radius *ℚ t) *ℚ (part_of_radius *ℚ t *ℚ (part_of_radius *ℚ t)) *ℚ (d.psi /ℚ d.root_of_psi)) (sym xp_times)
      ∙ ring (xp ∷ d.eta ∷ (d.psi /ℚ d.root_of_psi) ∷ []) {y = part_of_radius *ℚ xp *ℚ (part_of_radius *ℚ xp) *ℚ (part_of_radius *ℚ xp *ℚ (part_of_radius *ℚ xp)) *ℚ (d.psi /ℚ d.root_of_psi) *ℚ fourth d.eta} (search reads depth 90) tt
      ∙ ap (λ t. t *ℚ fourth d.eta) (coef1_is m d recovers taken terms)

  weight_most : d.coef1 *ℚ fourth d.eta ≤ℚ weight
  weight_most = le_by (d.coef1 ∷ d.eta ∷ []) (gap (subst (λ t. t ≤ℚ zero_ℚ +ℚ most) weight_is product_of_four.above) ⊕ known 1223893 18741610000000) (search reads depth 90) tt
    where
      most : ℚ
      most = ratio (pos 7) 37 *ℚ ratio (pos 7) 37 *ℚ (ratio (pos 7) 37 *ℚ ratio (pos 7) 37) *ℚ ratio (pos 10001) 10000

      product_of_four : IsNear most (share *ℚ share *ℚ (share *ℚ share) *ℚ (d.psi /ℚ d.root_of_psi)) zero_ℚ
      product_of_four =
          let one_share = small share_low share_most in
          let two = near_product one_share one_share in
          near_product (near_product two two) (small over_root over_root_most)

  coef1_low : NonNeg d.coef1
  coef1_low = subst NonNeg (coef1_is m d recovers taken terms) (parts ⊗ parts ⊗ (parts ⊗ parts) ⊗ over_root)
    where
      parts : NonNeg (part_of_radius *ℚ xp)
      parts = known 42000 6378135 ⊗ xp_low

  -- ---- the mean motion times the semimajor axis
  axis_least : ratio (pos 10470001) 10000000 ≤ℚ m.a
  axis_least = le_by (m.a ∷ m.e ∷ []) (same_sign low_gap (gap (low_least m d recovers taken terms)) ⊕ product_not_negative m d recovers taken terms ⊕ known 151344791 4252090000000) (search reads depth 90) tt
    where
      low_gap : low -ℚ ratio (pos 222000) 6378135 ≡ above -ℚ product -ℚ ratio (pos 222000) 6378135
      low_gap = ap (λ t. t -ℚ ratio (pos 222000) 6378135) (low_is m d recovers taken terms)

  axis_low : NonNeg m.a
  axis_low = same_sign (ring (m.a ∷ []) (search reads depth 90) tt) (gap axis_least ⊕ known 10470001 10000000)

  ratio_positive : Positive (ke /ℚ m.n0)
  ratio_positive = subst Positive (ring ((ke /ℚ m.n0) ∷ []) {x = ke /ℚ m.n0 -ℚ zero_ℚ} {y = ke /ℚ m.n0} (search reads depth 90) tt) (positive_gap recovers.a_is.argument)

  back : ke /ℚ m.n0 *ℚ m.n0 ≡ ke
  back = equal_by (m.n0 ∷ inverse m.n0 ∷ []) (none (mul_inverse m.n0 recovers.n0_divides) ke) (search reads depth 90) tt

  motion_low : NonNeg m.n0
  motion_low = positive_weak (positive_by (λ n. not_both (positive_known 743669160 (10 ^ 10)) (same_sign opposite (positive_weak ratio_positive ⊗ n))))
    where
      opposite : ke /ℚ m.n0 *ℚ neg_ℚ m.n0 ≡ neg_ℚ ke
      opposite = ring ((ke /ℚ m.n0) ∷ m.n0 ∷ []) {y = neg_ℚ (ke /ℚ m.n0 *ℚ m.n0)} (search reads depth 90) tt ∙ ap neg_ℚ back

  abbrev pace : ℚ
  pace = m.n0 *ℚ m.a

  pace_low : NonNeg pace
  pace_low = motion_low ⊗ axis_low

  motion_most : m.n0 ≤ℚ pace
  motion_most = le_by (m.n0 ∷ m.a ∷ []) (motion_low ⊗ (gap axis_least ⊕ known 470001 10000000)) (search reads depth 90) tt

  cube_scaled : ke *ℚ ke +ℚ part 60 *ℚ (m.n0 *ℚ m.n0) -ℚ m.n0 *ℚ m.n0 *ℚ (m.a *ℚ m.a *ℚ m.a) ≡ (ke /ℚ m.n0 *ℚ (ke /ℚ m.n0) +ℚ part 60 -ℚ m.a *ℚ m.a *ℚ m.a) *ℚ (m.n0 *ℚ m.n0)
  cube_scaled =
      ap (λ t. t *ℚ t +ℚ part 60 *ℚ (m.n0 *ℚ m.n0) -ℚ m.n0 *ℚ m.n0 *ℚ (m.a *ℚ m.a *ℚ m.a)) (sym back)
      ∙ ring ((ke /ℚ m.n0) ∷ m.n0 ∷ m.a ∷ []) (search reads depth 90) tt

  pace_square : ratio (pos 1047) 1000 *ℚ (pace *ℚ pace) ≤ℚ ke *ℚ ke
  pace_square =
      le_by (m.n0 ∷ m.a ∷ [])
      (same_sign (sym cube_scaled) (gap recovers.a_is.cube.above ⊗ square m.n0)
      ⊕ square m.n0 ⊗ (known 1 (2 ^ 60) ⊗ ((gap axis_least ⊕ known 470001 10000000) ⊗ (axis_low ⊕ known 1 1)))
      ⊕ pace_low ⊗ pace_low ⊗ (gap axis_least ⊕ known 9007199254662867 90071992547409920000000))
      (search reads depth 90) tt

  pace_most : pace ≤ℚ speed
  pace_most =
      by_sign (speed -ℚ pace)
      (λ n. le_by (pace ∷ []) n (search reads depth 90) tt)
      (λ n. le_by (pace ∷ [])
      (known (10 ^ 20) 326041977556079 ⊗ n ⊗ (known 1047 1000 ⊗ (n ⊗ (pace_low ⊕ known 727 10000)) ⊕ gap pace_square))
      (search reads depth 90) tt)

  pub bounded : HasBounds m d
  bounded = record {
    coef1_low = coef1_low;
    weight_most = weight_most;
    eta_low = eta_low;
    eta_below_one = le_by (d.eta ∷ []) (gap (eta_most m d recovers taken terms) ⊕ known 1173 10000) (search reads depth 90) tt;
    xp_low = xp_low;
    xp_most = xp_most;
    axis_least = axis_least;
    motion_low = motion_low;
    motion_most = motion_most;
    pace_low = pace_low;
    pace_most = pace_most;
  }
