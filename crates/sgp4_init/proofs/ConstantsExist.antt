-- The constants of a set that is taken exist.
use Rattle.std.proofs.Common.{[], ◌∷◌, pos, refl, subst, sym}
use Rattle.exact.specs.Rational.{ℚ, ratio, ◌+ℚ◌, ◌-ℚ◌, ◌*ℚ◌, one_ℚ, zero_ℚ, ◌≤ℚ◌, ◌<ℚ◌}
use Rattle.exact.proofs.RationalRing.{ring, reads}
use Rattle.exact.proofs.Integers.{of_int_is}
use Rattle.exact.proofs.Order.{◌⊕◌, ◌⊗◌, gap, known, le_by, not_negative}
use Rattle.exact.proofs.Strict.{Positive, le_of_lt, not_zero, positive_gap, positive_known, positive_product}
use Rattle.elements.specs.Elements.{record_of_elements}
use Rattle.sgp4_model.specs.Angle.{IsPi}
use Rattle.sgp4_model.specs.Constants.{InitRecord, IsConsts, kept_of}
use Rattle.sgp4_model.specs.Density.{DensityRecord, IsDensityTerms}
use Rattle.sgp4_model.specs.Drag.{near_circle}
use Rattle.sgp4_model.specs.MeanMotion.{MotionRecord, IsMotionRecovered, RecoversMotion, perigee_of}
use Rattle.sgp4_model.specs.Numerals.{decimal, whole, IsDivisor}
use Rattle.sgp4_model.specs.OrbitRecords.{ConstRecord}
use Rattle.sgp4_model.specs.Records.{SetRecord}
use Rattle.sgp4_model.proofs.FarQuarters.{pi_above_3}
use Rattle.sgp4_model.proofs.MotionExists.{recovered_motion_exists}
use Rattle.sgp4_motion.specs.declared.limits.TheConstants.{LEAST_PERIGEE_KM}
use Rattle.sgp4_motion.proofs.FaultLemmas.{le_of_not_lt}
use Rattle.sgp4_init.specs.ConstantsExist.{ConstantsExist}
use Rattle.sgp4_init.proofs.CosineLemmas.{cosine_above}
use Rattle.sgp4_init.proofs.DensityExists.{density_exists}
use Rattle.sgp4_init.proofs.EquationLemmas.{positive_from}
use Rattle.sgp4_init.proofs.TermsExist.{coefficients_exist, drag_exists, eccentric_positive, epoch_exists, higher_exist, rates_exist}

-- what is above 0 is positive
above_zero : {x : ℚ} → zero_ℚ <ℚ x → Positive x
above_zero {x} h = subst Positive (ring (x ∷ []) {x = x -ℚ zero_ℚ} {y = x} (search reads depth 90) tt) (positive_gap h)

-- the semilatus rectum of a recovered motion is positive
rectum_positive : (m : MotionRecord) → RecoversMotion m → zero_ℚ ≤ℚ m.e → m.e ≤ℚ decimal 2 1 → Positive m.p
rectum_positive m recovers least most =
    subst Positive (sym recovers.p_is) (positive_product (above_zero recovers.a_is.root) (subst Positive (sym recovers.bb_is) flat))
  where
    flat : Positive (one_ℚ -ℚ m.e *ℚ m.e)
    flat = positive_from (positive_known 95 100) (le_by (m.e ∷ []) (gap most ⊗ (known 2 10 ⊕ not_negative least)) (search reads depth 90) tt)

-- the product of an eccentricity above 0.0001 and eta divides
product_divides : (m : MotionRecord) (d : DensityRecord) → RecoversMotion m → IsDensityTerms m d → Positive d.xi → near_circle <ℚ m.e → IsDivisor (m.e *ℚ d.eta)
product_divides m d recovers terms xi eccentric =
    not_zero (positive_product e (subst Positive (sym terms.eta_is) (positive_product (positive_product (above_zero recovers.a_is.root) e) xi)))
  where
    e : Positive m.e
    e = eccentric_positive eccentric

-- 1 + c divides where the inclination is from 0 to 175 degrees
cosine_divides : (set : SetRecord) (pi : ℚ) (m : MotionRecord) → IsPi pi → IsMotionRecovered set pi m → zero_ℚ ≤ℚ set.incl → set.incl ≤ℚ whole 175 → IsDivisor (one_ℚ +ℚ m.c)
cosine_divides set pi m is_pi recovered least most =
    not_zero (positive_from (positive_known 33 10000) (cosine_above pi m.i m.si m.c is_pi recovered.i_pair low high))
  where
    low : zero_ℚ ≤ℚ m.i
    low = rw recovered.i_is (le_by (pi ∷ set.incl ∷ []) (known 1 180 ⊗ (not_negative least ⊗ (known 3 1 ⊕ gap (pi_above_3 is_pi)))) (search reads depth 90) tt)

    high : m.i ≤ℚ ratio (pos 175) 180 *ℚ pi
    high = rw recovered.i_is (le_by (pi ∷ set.incl ∷ []) (known 1 180 ⊗ (gap most ⊗ (known 3 1 ⊕ gap (pi_above_3 is_pi)))) (search reads depth 90) tt)

-- the constants of a set, from its recovered motion
from_motion : (set : SetRecord) (pi : ℚ) (m : MotionRecord) → IsPi pi → IsMotionRecovered set pi m → zero_ℚ ≤ℚ m.e → m.e ≤ℚ decimal 2 1 → whole LEAST_PERIGEE_KM ≤ℚ perigee_of m →
    IsDivisor (one_ℚ +ℚ m.c) → (k : ConstRecord) × IsConsts set pi k
from_motion set pi m is_pi recovered least most perigee by_cosine =
    let epoch = epoch_exists set pi is_pi in
    let density = density_exists m recovered.recovers least most perigee in
    let drag = drag_exists m density.0 epoch.0.bstar epoch.0.of_twice_w0.cosine (above_zero recovered.recovers.a_is.root) density.1.2 in
    let rates = rates_exist m (rectum_positive m recovered.recovers least most) in
    let rest = coefficients_exist epoch.0 m density.0 drag.0 rates.0 (product_divides m density.0 recovered.recovers density.1.0 density.1.1) by_cosine in
    let higher = higher_exist m density.0 drag.0 in
    let v : InitRecord = record { epoch = epoch.0; motion = m; density = density.0; drag = drag.0; rates = rates.0; coefficients = rest.0; higher = higher.0 } in (
      kept_of v,
      record {
        quantities = v;
        initialised = record {
          at_epoch = epoch.1;
          recovered = recovered;
          density_terms = density.1.0;
          drag_coefficient = drag.1.along;
          perigee_drag = drag.1.perigee;
          eccentricity_drag = drag.1.eccentricity;
          periodic_eccentricity_drag = drag.1.periodic;
          oblateness_factors = rates.1.factors;
          mean_anomaly_rate = rates.1.anomaly;
          perigee_rate = rates.1.perigee;
          node_rate = rates.1.node;
          remaining = rest.1;
          higher_drag = higher.1;
        };
        kept = refl;
      },
    )

-- the constants of a set whose eccentricity, mean motion, inclination and perigee are in range
from_set : (set : SetRecord) (pi : ℚ) → IsPi pi → zero_ℚ ≤ℚ set.ecc → set.ecc ≤ℚ decimal 2 1 → zero_ℚ <ℚ set.motion → set.motion ≤ℚ whole 17 → zero_ℚ ≤ℚ set.incl → set.incl ≤ℚ whole 175 →
    ((m : MotionRecord) → IsMotionRecovered set pi m → whole LEAST_PERIGEE_KM ≤ℚ perigee_of m) → (k : ConstRecord) × IsConsts set pi k
from_set set pi is_pi least most slow fast flat steep perigee =
    let found = recovered_motion_exists set pi is_pi least (le_by (set.ecc ∷ []) (gap most) (search reads depth 90) tt) slow fast in
    from_motion set pi found.0 is_pi found.1 (rw found.1.e_is least) (rw found.1.e_is most) (perigee found.0 found.1) (cosine_divides set pi found.0 is_pi found.1 flat steep)

-- the constants of a set that is taken exist, with each pi
pub constants_exist : ConstantsExist
constants_exist set pi ranges is_pi ordinary between near =
    from_set (record_of_elements set) pi is_pi ranges.ecc (le_of_not_lt ordinary.not_eccentric) ranges.motion (le_of_lt between.below)
    (subst (λ t. t ≤ℚ (record_of_elements set).incl) (of_int_is (pos 0)) ranges.incl.least) (le_of_not_lt ordinary.not_inclined) (λ m recovered. near.perigee pi m is_pi recovered)
