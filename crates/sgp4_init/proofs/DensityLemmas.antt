-- The terms of the density, in the order in which the code forms them.
use Rattle.std.proofs.Common.{◌≡◌, sym, ap, ◌∙◌, subst, [], ◌∷◌, pos}
use Rattle.exact.specs.Rational.{ℚ, ratio, inverse, abs_ℚ, ◌+ℚ◌, ◌-ℚ◌, ◌*ℚ◌, ◌/ℚ◌, ◌^ℚ◌, one_ℚ, zero_ℚ, ◌≤ℚ◌}
use Rattle.exact.proofs.RationalRing.{ring, reads}
use Rattle.exact.proofs.Bounds.{by_sign}
use Rattle.exact.specs.Interval.{Inside, between}
use Rattle.exact.proofs.Intervals.{inside}
use Rattle.exact.proofs.Order.{NonNeg, ◌⊕◌, ◌⊗◌, gap, known, le_by, le_antisym, le_of_not_negative, not_negative, same_sign}
use Rattle.exact.proofs.Strict.{Positive, le_of_lt, le_quotient, mul_inverse, not_zero, positive_by, positive_inverse, positive_known, positive_product, positive_sum, positive_weak, quotient_le}
use Rattle.sgp4_model.specs.Density.{DensityRecord, IsDensityTerms}
use Rattle.sgp4_model.specs.MeanMotion.{MotionRecord, RecoversMotion}
use Rattle.sgp4_model.specs.Wgs72.{density_base_km, density_top_km, earth_radius_km}
use Rattle.sgp4_init.specs.TakenMotion.{IsTakenMotion}
use Rattle.sgp4_motion.proofs.InputLemmas.{inverse_is}
use Rattle.sgp4_init.proofs.EquationLemmas.{equal_by, none, positive_from, radius_inverse, right_factor, ◌⊞◌}
use Rattle.sgp4_init.proofs.SizeLemmas.{abs_of_high}

-- s, and q less s
abbrev pub base : ℚ
base = ratio (pos 6456135) 6378135

abbrev pub part_of_radius : ℚ
part_of_radius = ratio (pos 42000) 6378135

pub base_is : one_ℚ +ℚ density_base_km /ℚ earth_radius_km ≡ base
base_is = ap (λ t. one_ℚ +ℚ density_base_km *ℚ t) radius_inverse ∙ ring [] (search reads depth 90) tt

part_is : (density_top_km -ℚ density_base_km) /ℚ earth_radius_km ≡ part_of_radius
part_is = ap (λ t. (density_top_km -ℚ density_base_km) *ℚ t) radius_inverse ∙ ring [] (search reads depth 90) tt

pub coef_power : (m : MotionRecord) (d : DensityRecord) → IsDensityTerms m d → part_of_radius *ℚ d.xi *ℚ (part_of_radius *ℚ d.xi) *ℚ (part_of_radius *ℚ d.xi *ℚ (part_of_radius *ℚ d.xi)) ≡ d.coef
coef_power m d terms = ring (d.xi ∷ []) {y = part_of_radius ^ℚ 4 *ℚ d.xi ^ℚ 4} (search reads depth 90) tt ∙ ap (λ t. t *ℚ d.xi ^ℚ 4) (sym (terms.qs_is ∙ ap (λ t. t ^ℚ 4) part_is)) ∙ sym terms.coef_is

module _ (m : MotionRecord) (d : DensityRecord) (recovers : RecoversMotion m) (high : IsTakenMotion m) (terms : IsDensityTerms m d) where
  abbrev above : ℚ
  above = m.a -ℚ base

  abbrev product : ℚ
  product = m.e *ℚ m.a

  abbrev low : ℚ
  low = m.rp -ℚ base

  pub s_known : d.s ≡ base
  s_known = terms.s_is ∙ base_is

  -- ---- signs
  pub product_not_negative : NonNeg product
  product_not_negative = not_negative high.least ⊗ not_negative (le_of_lt recovers.a_is.root)

  pub low_least : ratio (pos 222000) 6378135 ≤ℚ low
  low_least = le_by (m.rp ∷ []) (known 1000 6378135 ⊗ gap high.perigee) (search reads depth 90) tt

  pub low_positive : Positive low
  low_positive = positive_from (positive_known 221999 6378135) low_least

  pub low_is : low ≡ above -ℚ product
  low_is = ap (λ t. t -ℚ base) recovers.rp_is ∙ ring (m.a ∷ m.e ∷ []) (search reads depth 90) tt

  above_is : low +ℚ product ≡ above
  above_is = ap (λ t. t +ℚ product) low_is ∙ ring (m.a ∷ m.e ∷ []) (search reads depth 90) tt

  pub above_positive : Positive above
  above_positive = subst Positive above_is (positive_sum low_positive product_not_negative)

  pub sum_positive : Positive (above +ℚ product)
  sum_positive = positive_sum above_positive product_not_negative

  -- ---- the divisors
  pub above_divides : ¬ (above ≡ zero_ℚ)
  above_divides = not_zero above_positive

  pub sum_divides : ¬ (above +ℚ product ≡ zero_ℚ)
  sum_divides = not_zero sum_positive

  pub low_divides : ¬ (low ≡ zero_ℚ)
  low_divides = not_zero low_positive

  pub root_divides : ¬ (d.root_of_psi ≡ zero_ℚ)
  root_divides = right_factor (d.psi ^ℚ 3) terms.psi_divides

  -- ---- the terms
  pub xi_is : ratio (pos 1) 1 /ℚ above ≡ d.xi
  xi_is = sym (terms.xi_is ∙ ap (λ s. one_ℚ /ℚ (m.a -ℚ s)) s_known)

  pub eta_is : product /ℚ above ≡ d.eta
  eta_is = ring (m.a ∷ m.e ∷ inverse above ∷ []) {y = m.a *ℚ m.e *ℚ (one_ℚ /ℚ above)} (search reads depth 90) tt ∙ ap (λ x. m.a *ℚ m.e *ℚ x) xi_is ∙ sym terms.eta_is

  pub psi_is : abs_ℚ (ratio (pos 1) 1 -ℚ d.eta *ℚ d.eta) ≡ d.psi
  psi_is = ap abs_ℚ (ring (d.eta ∷ []) (search reads depth 90) tt) ∙ sym terms.psi_is

  rest_is : (above +ℚ product) *ℚ low *ℚ (inverse above *ℚ inverse above) ≡ one_ℚ -ℚ d.eta *ℚ d.eta
  rest_is =
      ap (λ t. (above +ℚ product) *ℚ t *ℚ (inverse above *ℚ inverse above)) low_is
      ∙ equal_by (m.a ∷ m.e ∷ inverse above ∷ []) {y = one_ℚ -ℚ product /ℚ above *ℚ (product /ℚ above)} (none (mul_inverse above above_divides) (above *ℚ inverse above +ℚ one_ℚ)) (search reads depth 90) tt
      ∙ ap (λ t. one_ℚ -ℚ t *ℚ t) eta_is

  psi_value : (above +ℚ product) *ℚ low *ℚ (inverse above *ℚ inverse above) ≡ d.psi
  psi_value = rest_is ∙ sym (abs_of_high (le_of_not_negative (positive_weak rest_positive))) ∙ psi_is
    where
      rest_positive : Positive (one_ℚ -ℚ d.eta *ℚ d.eta)
      rest_positive = subst Positive rest_is (positive_product (positive_product sum_positive low_positive) (positive_product (positive_inverse above_positive) (positive_inverse above_positive)))

  pub psi_positive : Positive d.psi
  psi_positive = subst Positive psi_value (positive_product (positive_product sum_positive low_positive) (positive_product (positive_inverse above_positive) (positive_inverse above_positive)))

  pub xp_is : above /ℚ (above +ℚ product) /ℚ low ≡ d.xi /ℚ d.psi
  xp_is = equal_by (whole ∷ d.psi ∷ d.xi ∷ inverse d.psi ∷ []) (none times_psi (inverse d.psi) ⊞ none (mul_inverse d.psi (not_zero psi_positive)) (zero_ℚ -ℚ whole)) (search reads depth 90) tt
    where
      whole : ℚ
      whole = above /ℚ (above +ℚ product) /ℚ low

      times_psi : above /ℚ (above +ℚ product) /ℚ low *ℚ d.psi ≡ d.xi
      times_psi =
          ap (λ t. above /ℚ (above +ℚ product) /ℚ low *ℚ t) (sym psi_value)
          ∙ equal_by (m.a ∷ m.e ∷ m.rp ∷ inverse above ∷ inverse (above +ℚ product) ∷ inverse low ∷ []) {y = ratio (pos 1) 1 /ℚ above}
          (none (mul_inverse above above_divides) ((above +ℚ product) *ℚ inverse (above +ℚ product) *ℚ (low *ℚ inverse low) *ℚ inverse above)
          ⊞ none (mul_inverse (above +ℚ product) sum_divides) (low *ℚ inverse low *ℚ inverse above)
          ⊞ none (mul_inverse low low_divides) (inverse above))
          (search reads depth 90) tt
          ∙ xi_is

  pub coef_is : part_of_radius *ℚ d.xi *ℚ (part_of_radius *ℚ d.xi) *ℚ (part_of_radius *ℚ d.xi *ℚ (part_of_radius *ℚ d.xi)) ≡ d.coef
  coef_is = coef_power m d terms

  divisor_inverse : inverse (d.psi ^ℚ 3 *ℚ d.root_of_psi) ≡ inverse d.psi ^ℚ 3 *ℚ inverse d.root_of_psi
  divisor_inverse =
      inverse_is terms.psi_divides
      (equal_by (d.psi ∷ d.root_of_psi ∷ inverse d.psi ∷ inverse d.root_of_psi ∷ [])
      (none (mul_inverse d.psi (not_zero psi_positive)) (((d.psi *ℚ inverse d.psi) ^ℚ 2 +ℚ d.psi *ℚ inverse d.psi +ℚ one_ℚ) *ℚ (d.root_of_psi *ℚ inverse d.root_of_psi))
      ⊞ none (mul_inverse d.root_of_psi root_divides) one_ℚ)
      (search reads depth 90) tt)

  pub coef1_is : part_of_radius *ℚ (d.xi /ℚ d.psi) *ℚ (part_of_radius *ℚ (d.xi /ℚ d.psi)) *ℚ (part_of_radius *ℚ (d.xi /ℚ d.psi) *ℚ (part_of_radius *ℚ (d.xi /ℚ d.psi))) *ℚ (d.psi /ℚ d.root_of_psi) ≡ d.coef1
  coef1_is =
      equal_by (d.xi ∷ d.psi ∷ inverse d.psi ∷ inverse d.root_of_psi ∷ [])
      {y = part_of_radius *ℚ d.xi *ℚ (part_of_radius *ℚ d.xi) *ℚ (part_of_radius *ℚ d.xi *ℚ (part_of_radius *ℚ d.xi)) *ℚ (inverse d.psi ^ℚ 3 *ℚ inverse d.root_of_psi)}
      (none (mul_inverse d.psi (not_zero psi_positive)) (part_of_radius ^ℚ 4 *ℚ d.xi ^ℚ 4 *ℚ inverse d.psi ^ℚ 3 *ℚ inverse d.root_of_psi))
      (search reads depth 90) tt
      ∙ ap (λ t. t *ℚ (inverse d.psi ^ℚ 3 *ℚ inverse d.root_of_psi)) coef_is
      ∙ ap (λ t. d.coef *ℚ t) (sym divisor_inverse)
      ∙ sym terms.coef1_is

  -- ---- where they lie
  pub eta_least : ratio (pos 0) 10000 ≤ℚ d.eta
  eta_least = subst (λ t. ratio (pos 0) 10000 ≤ℚ t) eta_is (le_quotient above_positive (le_by (m.a ∷ m.e ∷ []) product_not_negative (search reads depth 90) tt))

  pub eta_most : d.eta ≤ℚ ratio (pos 8827) 10000
  eta_most = subst (λ t. t ≤ℚ ratio (pos 8827) 10000) eta_is
      (quotient_le above_positive (le_by (m.a ∷ m.e ∷ [])
      (known 6827 8000 ⊗ same_sign low_gap (gap low_least) ⊕ known 1173 8000 ⊗ (not_negative (le_of_lt recovers.a_is.root) ⊗ gap high.most) ⊕ known 328243 17008360000)
      (search reads depth 90) tt))
    where
      low_gap : low -ℚ ratio (pos 222000) 6378135 ≡ above -ℚ product -ℚ ratio (pos 222000) 6378135
      low_gap = ap (λ t. t -ℚ ratio (pos 222000) 6378135) low_is

  pub eta_inside : Inside (between (pos 0) 10000 (pos 8827) 10000) d.eta
  eta_inside = inside (pos 0) 10000 (pos 8827) 10000 eta_least eta_most

  pub share_inside : Inside (between (pos 1) 2 (pos 2) 2) (above /ℚ (above +ℚ product))
  share_inside = inside (pos 1) 2 (pos 2) 2
      (le_quotient sum_positive (le_by (m.a ∷ m.e ∷ []) (known 1 2 ⊗ same_sign low_is (positive_weak low_positive)) (search reads depth 90) tt))
      (quotient_le sum_positive (le_by (m.a ∷ m.e ∷ []) product_not_negative (search reads depth 90) tt))

  psi_least : ratio (pos 22) 100 ≤ℚ d.psi
  psi_least = subst (λ t. ratio (pos 22) 100 ≤ℚ t) (sym rest_is ∙ psi_value) (le_by (d.eta ∷ []) (gap eta_most ⊗ (known 8827 10000 ⊕ gap eta_least) ⊕ known 84071 100000000) (search reads depth 90) tt)

  psi_most : d.psi ≤ℚ one_ℚ
  psi_most = subst (λ t. t ≤ℚ one_ℚ) (sym rest_is ∙ psi_value) (le_by (d.eta ∷ []) (gap eta_least ⊗ gap eta_least) (search reads depth 90) tt)

  root_not_negative : NonNeg d.root_of_psi
  root_not_negative = not_negative terms.root_of_psi_is.root

  pub root_positive : Positive d.root_of_psi
  root_positive = positive_by (λ n. root_divides (le_antisym (le_by (d.root_of_psi ∷ []) n (search reads depth 90) tt) terms.root_of_psi_is.root))

  -- a root is at most 1.1
  root_most : d.root_of_psi ≤ℚ ratio (pos 11) 10
  root_most =
      by_sign (ratio (pos 11) 10 -ℚ d.root_of_psi)
      (λ n. le_by (d.root_of_psi ∷ []) n (search reads depth 90) tt)
      (λ n. le_by (d.root_of_psi ∷ d.psi ∷ [])
      (known 28823037615171174400 6052837899185946599 ⊗ n ⊗ (n ⊗ (root_not_negative ⊕ known 11 10) ⊕ gap terms.root_of_psi_is.square.above ⊕ gap psi_most))
      (search reads depth 90) tt)

  -- psi is at most 1.0001 times its root
  pub psi_over_root : d.psi ≤ℚ ratio (pos 10001) 10000 *ℚ d.root_of_psi
  psi_over_root =
      by_sign (ratio (pos 10001) 10000 *ℚ d.root_of_psi -ℚ d.psi)
      (λ n. le_by (d.root_of_psi ∷ d.psi ∷ []) n (search reads depth 90) tt)
      (λ n. le_by (d.root_of_psi ∷ d.psi ∷ [])
      (known 2882303761517117440000000000 126827706575026004518343 ⊗ n
      ⊗ (n ⊗ (positive_weak psi_positive ⊕ known 10001 10000 ⊗ root_not_negative)
      ⊕ known 100020001 100000000 ⊗ gap terms.root_of_psi_is.square.below
      ⊕ positive_weak psi_positive ⊗ gap psi_most
      ⊕ known 20001 100000000 ⊗ gap psi_least))
      (search reads depth 90) tt)

  pub root_inside : Inside (between (pos 2000) 10000 (pos 10001) 10000) (d.psi /ℚ d.root_of_psi)
  root_inside = inside (pos 2000) 10000 (pos 10001) 10000
      (le_quotient root_positive (le_by (d.root_of_psi ∷ d.psi ∷ []) (gap psi_least ⊕ known 2 10 ⊗ gap root_most) (search reads depth 90) tt))
      (quotient_le root_positive psi_over_root)
