-- The form of the constants of a set is that of its recovered motion.
use Rattle.std.proofs.Common.{◌≡◌, ◌∙◌, ap, inl, inr, subst, sym}
use Rattle.exact.specs.Rational.{ℚ, ◌-ℚ◌, ◌*ℚ◌, one_ℚ, ◌<ℚ◌}
use Rattle.sgp4_model.specs.Constants.{IsConsts}
use Rattle.sgp4_model.specs.MeanMotion.{perigee_of}
use Rattle.sgp4_model.specs.Numerals.{whole}
use Rattle.sgp4_model.specs.OrbitRecords.{ConstRecord}
use Rattle.sgp4_model.specs.Records.{SetRecord}
use Rattle.sgp4_model.specs.Simple.{perigee_km}
use Rattle.sgp4_model.specs.Wgs72.{earth_radius_km}
use Rattle.sgp4_motion.proofs.FateLemmas.{near_earth_sets_are_full}
use Rattle.sgp4_motion.proofs.FaultLemmas.{not_lt}
use Rattle.sgp4_init.specs.FormLaws.{AcceptedConstantsAreNotSimple, ConstantsAreOfOneForm, ConstantsHaveTheFormOfTheirMotion}

-- the perigee of the constants is that of the recovered motion
perigee_is : (set : SetRecord) (pi : ℚ) (k : ConstRecord) (consts : IsConsts set pi k) → perigee_km k ≡ perigee_of consts.quantities.motion
perigee_is set pi k consts =
    ap (λ (t : ConstRecord). perigee_km t) consts.kept
    ∙ ap (λ t. (t -ℚ one_ℚ) *ℚ earth_radius_km) (sym consts.initialised.recovered.recovers.rp_is)

pub constants_have_the_form_of_their_motion : ConstantsHaveTheFormOfTheirMotion
constants_have_the_form_of_their_motion set pi k consts = (
  λ simple. subst (λ t. t <ℚ whole 220) (perigee_is set pi k consts) simple,
  λ simple. subst (λ t. t <ℚ whole 220) (sym (perigee_is set pi k consts)) simple,
)

pub constants_are_of_one_form : ConstantsAreOfOneForm
constants_are_of_one_form set (inl simple) = inl (λ pi k is_pi consts.
    (constants_have_the_form_of_their_motion set pi k consts).1 (simple pi consts.quantities.motion is_pi consts.initialised.recovered))
constants_are_of_one_form set (inr full) = inr (λ pi k is_pi consts of_k.
    not_lt (full pi consts.quantities.motion is_pi consts.initialised.recovered) ((constants_have_the_form_of_their_motion set pi k consts).0 of_k))

pub accepted_constants_are_not_simple : AcceptedConstantsAreNotSimple
accepted_constants_are_not_simple set near pi k is_pi consts of_k =
    not_lt (near_earth_sets_are_full set near pi consts.quantities.motion is_pi consts.initialised.recovered) ((constants_have_the_form_of_their_motion set pi k consts).0 of_k)
