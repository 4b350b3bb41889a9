-- What a certified row of sunlight says.
use Rattle.exact.specs.Rational.{ℚ}
use Rattle.sgp4_model.specs.Light.{ShadowRecord}
use Rattle.sgp4_model.specs.LitSolution.{IsLitSolution}
use Rattle.sgp4_model.specs.Records.{SetRecord}
use Rattle.rows_model.specs.Sunlight.{AreLit, CertifiedSunlightIsTrue}
use Rattle.rows_model.proofs.HeadlineCases.{place_in, true_span}
use Rattle.rows_model.proofs.PartCases.{positions_make_light}

-- what a lit solution is made of
lit : {set : SetRecord} {at : ℚ} {v : ShadowRecord} → IsLitSolution set at v → AreLit set at
lit h = record {
  pi = h.pi;
  k = h.constants;
  m = h.mean;
  root = h.root;
  r = h.position;
  s = h.sun;
  lit = record { is_pi = h.is_pi; constants = h.are_constants; mean = h.is_mean; position = h.is_position; sun = h.is_sun };
}

pub certified_sunlight_is_true : CertifiedSunlightIsTrue
certified_sunlight_is_true set start ticks span = record {
  sunlit = λ x pi k m root r s one here h. ((true_span one).yes one.is x (place_in here)).each _ (positions_make_light _ _ _ _ _ _ _ _ h);
  behind = λ x pi k m root r s one here h. (((true_span one).no one.is x (place_in here)).each _ (positions_make_light _ _ _ _ _ _ _ _ h)).behind;
  inside = λ x pi k m root r s one here h. (((true_span one).no one.is x (place_in here)).each _ (positions_make_light _ _ _ _ _ _ _ _ h)).inside;
  undecided_behind = λ x pi k m root r s one here h. (((true_span one).grazes one.is x (place_in here)).each _ (positions_make_light _ _ _ _ _ _ _ _ h)).behind;
  undecided = λ x pi k m root r s one here h. (((true_span one).grazes one.is x (place_in here)).each _ (positions_make_light _ _ _ _ _ _ _ _ h)).given;
  sharp = λ x pi k m root r s one here h. (((true_span one).grazes one.is x (place_in here)).each _ (positions_make_light _ _ _ _ _ _ _ _ h)).sharp;
  some_sunlit = λ x one here. lit ((true_span one).yes one.is x (place_in here)).some.1;
  some_dark = λ x one here. lit ((true_span one).no one.is x (place_in here)).some.1;
  some_undecided = λ x one here. lit ((true_span one).grazes one.is x (place_in here)).some.1;
}
