-- The drag term of the mean anomaly times the eccentricity that drag sees is small, where the perigee is at least 300 km high:
-- it is -2/3 of a term of the density, times the drag term over the eccentricity.
use Rattle.std.proofs.Common.{◌≡◌, ◌∙◌, refl, ap, sym, subst, [], ◌∷◌, Bool, true, false, not, T, pos, negsuc}
use Rattle.exact.specs.Rational.{ℚ, at_least_0, inverse, ratio, neg_ℚ, one_ℚ, zero_ℚ, ◌+ℚ◌, ◌-ℚ◌, ◌*ℚ◌, ◌/ℚ◌, ◌^ℚ◌, ◌≤ℚ◌, ◌<ℚ◌}
use Rattle.exact.specs.Interval.{Inside, between}
use Rattle.exact.proofs.Intervals.{inside}
use Rattle.exact.proofs.Order.{NonNeg, gap, known, le_by, not_negative, ◌⊕◌, ◌⊗◌}
use Rattle.exact.proofs.RationalRing.{ring, reads}
use Rattle.exact.proofs.Strict.{Positive, le_of_lt, le_quotient, mul_inverse, not_zero, positive_known, positive_sum, quotient_le, positive_above}
use Rattle.exact.proofs.Tests.{by_test}
use Rattle.sgp4_model.specs.Angle.{IsNear}
use Rattle.sgp4_model.specs.Constants.{InitRecord, IsConsts}
use Rattle.sgp4_model.specs.Drag.{near_circle}
use Rattle.sgp4_model.specs.MeanMotion.{IsFullMotion, perigee_of}
use Rattle.sgp4_model.specs.Numerals.{whole}
use Rattle.sgp4_model.specs.OrbitRecords.{ConstRecord}
use Rattle.sgp4_model.specs.Records.{SetRecord}
use Rattle.sgp4_model.specs.Wgs72.{density_base_km, density_top_km, earth_radius_km}

-- ---- small numbers
near_product : {b d x y : ℚ} → IsNear b x zero_ℚ → IsNear d y zero_ℚ → IsNear (b *ℚ d) (x *ℚ y) zero_ℚ
near_product {b} {d} {x} {y} h k = record {
  above = le_by (b ∷ d ∷ x ∷ y ∷ []) (known 1 2 ⊗ (gap h.above ⊗ gap k.below ⊕ gap h.below ⊗ gap k.above)) (search reads depth 90) tt;
  below = le_by (b ∷ d ∷ x ∷ y ∷ []) (known 1 2 ⊗ (gap h.above ⊗ gap k.above ⊕ gap h.below ⊗ gap k.below)) (search reads depth 90) tt;
}

small : {b x : ℚ} → zero_ℚ ≤ℚ x → x ≤ℚ b → IsNear b x zero_ℚ
small {b} {x} l h = record {
  above = le_by (b ∷ x ∷ []) (gap h) (search reads depth 90) tt;
  below = le_by (b ∷ x ∷ []) (gap h ⊕ not_negative l ⊕ not_negative l) (search reads depth 90) tt;
}

-- ---- the term of the density, of x as 1 / (a - s)
radius_inverse : inverse earth_radius_km ≡ ratio (pos 1000) 6378135
unfolding inverse ratio
radius_inverse = refl

-- at most 0.19 times the radius of the Earth over 42 km
xi_small : (a e s x : ℚ) → ratio (pos 10470) 10000 ≤ℚ a *ℚ (one_ℚ -ℚ e) → zero_ℚ ≤ℚ e → zero_ℚ ≤ℚ a → s ≡ one_ℚ +ℚ density_base_km /ℚ earth_radius_km → x ≡ one_ℚ /ℚ (a -ℚ s) →
    (zero_ℚ ≤ℚ x) × (x ≤ℚ ratio (pos 28761) 1000)
xi_small a e s x perigee low positive s_is x_is = (
  subst (λ t. zero_ℚ ≤ℚ t) (sym x_is) (le_quotient p (le_by (a ∷ s ∷ []) (known 1 1) (search reads depth 90) tt)),
  subst (λ t. t ≤ℚ ratio (pos 28761) 1000) (sym x_is) (quotient_le p (le_by (a ∷ s ∷ []) (known 28761 1000 ⊗ gap above ⊕ known 1997 100000000) (search reads depth 90) tt)),
)
  where
    known_s : s ≡ ratio (pos 6456135) 6378135
    known_s = s_is ∙ ap (λ t. one_ℚ +ℚ density_base_km *ℚ t) radius_inverse ∙ ring [] (search reads depth 90) tt

    above : ratio (pos 34770) 1000000 ≤ℚ a -ℚ s
    above = rw known_s (le_by (a ∷ e ∷ []) (gap perigee ⊕ not_negative positive ⊗ not_negative low ⊕ known 30607 42520900000) (search reads depth 90) tt)

    p : Positive (a -ℚ s)
    p = positive_above (positive_known 34769 1000000) above

-- the term: the fourth power of (q - s) x
part : ℚ
part = ratio (pos 42000) 6378135

bound : ℚ
bound = ratio (pos 189392) 1000000

term_small : (qs x coef : ℚ) → zero_ℚ ≤ℚ x → x ≤ℚ ratio (pos 28761) 1000 → qs ≡ ((density_top_km -ℚ density_base_km) /ℚ earth_radius_km) ^ℚ 4 → coef ≡ qs *ℚ x ^ℚ 4 →
    IsNear (bound *ℚ bound *ℚ (bound *ℚ bound)) coef zero_ℚ
unfolding part bound
term_small qs x coef low high qs_is coef_is =
    subst (λ t. IsNear (bound *ℚ bound *ℚ (bound *ℚ bound)) t zero_ℚ) (sym is) (near_product (near_product scaled scaled) (near_product scaled scaled))
  where
    scaled : IsNear bound (part *ℚ x) zero_ℚ
    scaled = small (le_by (x ∷ []) (known 42000 6378135 ⊗ not_negative low) (search reads depth 90) tt) (le_by (x ∷ []) (known 42000 6378135 ⊗ gap high ⊕ known 23933 26575562500) (search reads depth 90) tt)

    is : coef ≡ part *ℚ x *ℚ (part *ℚ x) *ℚ (part *ℚ x *ℚ (part *ℚ x))
    is =
        coef_is ∙ ap (λ t. t *ℚ x ^ℚ 4) (qs_is ∙ ap (λ t. ((density_top_km -ℚ density_base_km) *ℚ t) ^ℚ 4) radius_inverse)
        ∙ ring (x ∷ []) (search reads depth 90) tt

-- ---- over the eccentricity, which is above 0.0001
over_both : (e n : ℚ) → ¬ (e *ℚ n ≡ zero_ℚ) → ratio (pos 1) 10000 ≤ℚ e → inverse (e *ℚ n) *ℚ n ≡ one_ℚ /ℚ e
over_both e n divides low =
    let p : Positive e = positive_above (positive_known 0 10000) low in
    let w = inverse (e *ℚ n) *ℚ n in
    ring (inverse (e *ℚ n) ∷ n ∷ []) {y = one_ℚ *ℚ (inverse (e *ℚ n) *ℚ n)} (search reads depth 90) tt
    ∙ ap (λ t. t *ℚ (inverse (e *ℚ n) *ℚ n)) (sym (mul_inverse e (not_zero p)))
    ∙ ring (e ∷ n ∷ inverse e ∷ inverse (e *ℚ n) ∷ []) {y = e *ℚ n *ℚ inverse (e *ℚ n) *ℚ inverse e} (search reads depth 90) tt
    ∙ ap (λ t. t *ℚ inverse e) (mul_inverse (e *ℚ n) divides)

over_small : (e : ℚ) → ratio (pos 1) 10000 ≤ℚ e → IsNear (ratio (pos 10000) 1) (one_ℚ /ℚ e) zero_ℚ
over_small e low =
    let p : Positive e = positive_above (positive_known 0 10000) low in
    small (le_quotient p (le_by (e ∷ []) (known 1 1) (search reads depth 90) tt)) (quotient_le p (le_by (e ∷ []) (known 10000 1 ⊗ gap low) (search reads depth 90) tt))

bend_near : (e n coef b : ℚ) → ¬ (e *ℚ n ≡ zero_ℚ) → ratio (pos 1) 10000 ≤ℚ e → IsNear (bound *ℚ bound *ℚ (bound *ℚ bound)) coef zero_ℚ → IsNear (ratio (pos 1) 1000) b zero_ℚ →
    Inside (between (negsuc 85) 10000 (pos 86) 10000) (neg_ℚ (ratio (pos 2) 3) *ℚ coef *ℚ b /ℚ (e *ℚ n) *ℚ n)
unfolding bound
bend_near e n coef b divides low of_coef of_b =
    subst (Inside (between (negsuc 85) 10000 (pos 86) 10000)) (sym is)
    (inside (negsuc 85) 10000 (pos 86) 10000
    (le_by ((coef *ℚ b *ℚ (one_ℚ /ℚ e)) ∷ []) (known 2 3 ⊗ gap all.above ⊕ rest) (search reads depth 90) tt)
    (le_by ((coef *ℚ b *ℚ (one_ℚ /ℚ e)) ∷ []) (known 2 3 ⊗ gap all.below ⊕ rest) (search reads depth 90) tt))
  where
    is : neg_ℚ (ratio (pos 2) 3) *ℚ coef *ℚ b /ℚ (e *ℚ n) *ℚ n ≡ neg_ℚ (ratio (pos 2) 3) *ℚ (coef *ℚ b *ℚ (one_ℚ /ℚ e))
    is =
        ring (coef ∷ b ∷ n ∷ inverse (e *ℚ n) ∷ []) {y = neg_ℚ (ratio (pos 2) 3) *ℚ (coef *ℚ b *ℚ (inverse (e *ℚ n) *ℚ n))} (search reads depth 90) tt
        ∙ ap (λ t. neg_ℚ (ratio (pos 2) 3) *ℚ (coef *ℚ b *ℚ t)) (over_both e n divides low)

    all : IsNear (bound *ℚ bound *ℚ (bound *ℚ bound) *ℚ ratio (pos 1) 1000 *ℚ ratio (pos 10000) 1) (coef *ℚ b *ℚ (one_ℚ /ℚ e)) zero_ℚ
    all = near_product (near_product of_coef of_b) (over_small e low)

    rest : NonNeg (ratio (pos 86) 10000 -ℚ ratio (pos 2) 3 *ℚ (bound *ℚ bound *ℚ (bound *ℚ bound) *ℚ ratio (pos 1) 1000 *ℚ ratio (pos 10000) 1))
    rest = gap (le_by [] (known 51745444569239 2288818359375000000) (search reads depth 90) tt)

pub bend_inside : (set : SetRecord) (pi : ℚ) (k : ConstRecord) → IsConsts set pi k → ratio (pos 10470) 10000 ≤ℚ k.a *ℚ (one_ℚ -ℚ k.e) → zero_ℚ ≤ℚ k.e → zero_ℚ ≤ℚ k.a → IsNear (ratio (pos 1) 1000) k.bstar zero_ℚ →
    Inside (between (negsuc 85) 10000 (pos 86) 10000) (k.xmcof *ℚ k.eta)
bend_inside set pi k constants perigee low positive of_b =
    subst (λ t. Inside (between (negsuc 85) 10000 (pos 86) 10000) (t.xmcof *ℚ t.eta)) (sym constants.kept)
    (of_init (subst (λ t. ratio (pos 10470) 10000 ≤ℚ t.a *ℚ (one_ℚ -ℚ t.e)) constants.kept perigee) (subst (λ t. zero_ℚ ≤ℚ t.e) constants.kept low) (subst (λ t. zero_ℚ ≤ℚ t.a) constants.kept positive)
    (subst (λ t. IsNear (ratio (pos 1) 1000) t.bstar zero_ℚ) constants.kept of_b))
  where
    v : InitRecord
    v = constants.quantities

    of_init : ratio (pos 10470) 10000 ≤ℚ v.motion.a *ℚ (one_ℚ -ℚ v.motion.e) → zero_ℚ ≤ℚ v.motion.e → zero_ℚ ≤ℚ v.motion.a → IsNear (ratio (pos 1) 1000) v.epoch.bstar zero_ℚ →
        Inside (between (negsuc 85) 10000 (pos 86) 10000) (v.coefficients.xmcof *ℚ v.density.eta)
    of_init perigee low positive of_b =
        by_test (at_least_0 (near_circle -ℚ v.motion.e)) (λ t. nothing (constants.initialised.remaining.xmcof_is_else (record { le = t })))
        (λ t. by_test (at_least_0 (perigee_of v.motion -ℚ whole 220)) (λ f. some (record { lt = t }) (record { le = f }))
        (λ f. nothing (constants.initialised.remaining.xmcof_is_simple (record { lt = f }))))
      where
        nothing : v.coefficients.xmcof ≡ zero_ℚ → Inside (between (negsuc 85) 10000 (pos 86) 10000) (v.coefficients.xmcof *ℚ v.density.eta)
        nothing is =
            subst (λ t. Inside (between (negsuc 85) 10000 (pos 86) 10000) (t *ℚ v.density.eta)) (sym is)
            (inside (negsuc 85) 10000 (pos 86) 10000 (le_by (v.density.eta ∷ []) (known 86 10000) (search reads depth 90) tt) (le_by (v.density.eta ∷ []) (known 86 10000) (search reads depth 90) tt))

        some : near_circle <ℚ v.motion.e → IsFullMotion v.motion → Inside (between (negsuc 85) 10000 (pos 86) 10000) (v.coefficients.xmcof *ℚ v.density.eta)
        some h full =
            let terms = constants.initialised.density_terms in
            let x = xi_small v.motion.a v.motion.e v.density.s v.density.xi perigee low positive terms.s_is terms.xi_is in
            subst (λ t. Inside (between (negsuc 85) 10000 (pos 86) 10000) (t *ℚ v.density.eta)) (sym (constants.initialised.remaining.xmcof_is full h))
            (bend_near v.motion.e v.density.eta v.density.coef v.epoch.bstar (constants.initialised.remaining.e_eta_divides full h) (le_of_lt h)
            (term_small v.density.qs v.density.xi v.density.coef x.0 x.1 terms.qs_is terms.coef_is) of_b)
