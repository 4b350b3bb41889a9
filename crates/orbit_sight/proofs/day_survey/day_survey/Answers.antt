use Rattle.std.proofs.Common.{refl, arith, subst, ◌<◌, ◌≤◌}
use Rattle.decimals.specs.Decimal.{value}
use Rattle.earth_frame.proofs.OffsetLemmas.{kept_offset}
use Rattle.sgp4_model.specs.DaySolution.{IsDaylight, IsNight}
use Rattle.sgp4_model.specs.Time.{IsWithin}
use Rattle.orbit_sight.proofs.DayLemmas.{throughout_day}
use Rattle.orbit_sight.proofs.SurveyLemmas.{among_first, among_last, opposite, within_first, within_last}
use Rattle.orbit_sight.proofs.day_survey.day_survey.Goals as goal

pub returns-clause-first_yes : goal.returns-clause-first_yes
returns-clause-first_yes c is =
    let certain = c.survey_of.ensures.first_yes is in
    let along = rw (kept_offset c.args.dut1_ms c.requires.offset) at c.light_over-light.ensures.along in
    let spot = c.args.spot.now in
    let longer : c.args.from < c.args.to = omega (arith, c.requires.longer) in
    let inside : c.survey_of.result.left ≤ c.args.to = omega (arith, c.survey_of.ensures.left.1, c.survey_of.ensures.right.1) in
    throughout_day (value spot.lat) (value spot.lon) c.args.start c.args.dut1_ms IsDaylight c.args.from c.args.to c.args.from c.survey_of.result.left longer (λ q w. within_first inside w)
    (λ h x q w on s. c.sign_parts-first.ensures.yes h x (along h x s)
    (among_first c.args.from c.args.to _ q h longer certain.0 on (subst (λ t. IsWithin c.args.from t q) certain.1 w)))

pub returns-clause-first_no : goal.returns-clause-first_no
returns-clause-first_no c is =
    let certain = c.survey_of.ensures.first_no is in
    let along = rw (kept_offset c.args.dut1_ms c.requires.offset) at c.light_over-light.ensures.along in
    let spot = c.args.spot.now in
    let longer : c.args.from < c.args.to = omega (arith, c.requires.longer) in
    let inside : c.survey_of.result.left ≤ c.args.to = omega (arith, c.survey_of.ensures.left.1, c.survey_of.ensures.right.1) in
    throughout_day (value spot.lat) (value spot.lon) c.args.start c.args.dut1_ms IsNight c.args.from c.args.to c.args.from c.survey_of.result.left longer (λ q w. within_first inside w)
    (λ h x q w on s. c.sign_parts-first.ensures.no h x (along h x s)
    (among_first c.args.from c.args.to _ q h longer certain.0 on (subst (λ t. IsWithin c.args.from t q) certain.1 w)))

pub returns-clause-last_yes : goal.returns-clause-last_yes
returns-clause-last_yes c is =
    let certain = c.survey_of.ensures.last_yes is in
    let along = rw (kept_offset c.args.dut1_ms c.requires.offset) at c.light_over-light.ensures.along in
    let spot = c.args.spot.now in
    let longer : c.args.from < c.args.to = omega (arith, c.requires.longer) in
    let inside : c.args.from ≤ c.survey_of.result.right = omega (arith, c.survey_of.ensures.right.0) in
    throughout_day (value spot.lat) (value spot.lon) c.args.start c.args.dut1_ms IsDaylight c.args.from c.args.to c.survey_of.result.right c.args.to longer (λ q w. within_last inside w)
    (λ h x q w on s. c.sign_parts-last.ensures.yes (opposite h) x (c.reversed.ensures h (opposite h) x refl (along h x s))
    (among_last c.args.from c.args.to _ c.survey_of.result.right q h longer certain.0 certain.1 on w))

pub returns-clause-last_no : goal.returns-clause-last_no
returns-clause-last_no c is =
    let certain = c.survey_of.ensures.last_no is in
    let along = rw (kept_offset c.args.dut1_ms c.requires.offset) at c.light_over-light.ensures.along in
    let spot = c.args.spot.now in
    let longer : c.args.from < c.args.to = omega (arith, c.requires.longer) in
    let inside : c.args.from ≤ c.survey_of.result.right = omega (arith, c.survey_of.ensures.right.0) in
    throughout_day (value spot.lat) (value spot.lon) c.args.start c.args.dut1_ms IsNight c.args.from c.args.to c.survey_of.result.right c.args.to longer (λ q w. within_last inside w)
    (λ h x q w on s. c.sign_parts-last.ensures.no (opposite h) x (c.reversed.ensures h (opposite h) x refl (along h x s))
    (among_last c.args.from c.args.to _ c.survey_of.result.right q h longer certain.0 certain.1 on w))
