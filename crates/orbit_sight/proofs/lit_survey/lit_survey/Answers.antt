use Rattle.std.proofs.Common.{refl, arith, subst, ◌<◌, ◌≤◌}
use Rattle.sgp4_model.specs.Time.{IsWithin}
use Rattle.orbit_sight.proofs.LitLemmas.{throughout_part}
use Rattle.orbit_sight.proofs.SurveyLemmas.{among_first, among_last, opposite, within_first, within_last}
use Rattle.orbit_sight.proofs.lit_survey.lit_survey.Goals as goal

pub returns-in-Some-clause-first_yes : goal.returns-in-Some-clause-first_yes
returns-in-Some-clause-first_yes c is =
    let certain = c.survey_of.ensures.first_yes is in
    let longer : c.args.from < c.args.to = omega (arith, c.requires.longer) in
    let inside : c.survey_of.result.left ≤ c.args.to = omega (arith, c.survey_of.ensures.left.1, c.survey_of.ensures.right.1) in
    throughout_part c.args.window.now.start c.args.from c.args.to c.args.from c.survey_of.result.left longer (λ q w. within_first inside w) c.in-Some.ensures.exists
    (λ h v q w on p.
    let covered = c.in-Some.ensures.covers h v p in
    c.lit_parts-first.ensures.yes h v (record { p = covered.0; g = covered.1 })
    (among_first c.args.from c.args.to _ q h longer certain.0 on (subst (λ t. IsWithin c.args.from t q) certain.1 w)))

pub returns-in-Some-clause-last_yes : goal.returns-in-Some-clause-last_yes
returns-in-Some-clause-last_yes c is =
    let certain = c.survey_of.ensures.last_yes is in
    let longer : c.args.from < c.args.to = omega (arith, c.requires.longer) in
    let inside : c.args.from ≤ c.survey_of.result.right = omega (arith, c.survey_of.ensures.right.0) in
    throughout_part c.args.window.now.start c.args.from c.args.to c.survey_of.result.right c.args.to longer (λ q w. within_last inside w) c.in-Some.ensures.exists
    (λ h v q w on p.
    let covered = c.in-Some.ensures.covers h v p in
    c.lit_parts-last.ensures.yes (opposite h) v (c.reversed.ensures h (opposite h) v refl (record { p = covered.0; g = covered.1 }))
    (among_last c.args.from c.args.to _ c.survey_of.result.right q h longer certain.0 certain.1 on w))

pub returns-in-None-clause-first_yes : goal.returns-in-None-clause-first_yes
returns-in-None-clause-first_yes c is = absurd (omega (arith, (c.survey_of-in-None.ensures.first_yes is).0))

pub returns-in-None-clause-last_yes : goal.returns-in-None-clause-last_yes
returns-in-None-clause-last_yes c is = absurd (omega (arith, (c.survey_of-in-None.ensures.last_yes is).0))

pub returns-in-Some-clause-first_no : goal.returns-in-Some-clause-first_no
returns-in-Some-clause-first_no c is =
    let certain = c.survey_of.ensures.first_no is in
    let longer : c.args.from < c.args.to = omega (arith, c.requires.longer) in
    let inside : c.survey_of.result.left ≤ c.args.to = omega (arith, c.survey_of.ensures.left.1, c.survey_of.ensures.right.1) in
    throughout_part c.args.window.now.start c.args.from c.args.to c.args.from c.survey_of.result.left longer (λ q w. within_first inside w) c.in-Some.ensures.exists
    (λ h v q w on p.
    let covered = c.in-Some.ensures.covers h v p in
    c.lit_parts-first.ensures.no h v (record { p = covered.0; g = covered.1 })
    (among_first c.args.from c.args.to _ q h longer certain.0 on (subst (λ t. IsWithin c.args.from t q) certain.1 w)))

pub returns-in-Some-clause-last_no : goal.returns-in-Some-clause-last_no
returns-in-Some-clause-last_no c is =
    let certain = c.survey_of.ensures.last_no is in
    let longer : c.args.from < c.args.to = omega (arith, c.requires.longer) in
    let inside : c.args.from ≤ c.survey_of.result.right = omega (arith, c.survey_of.ensures.right.0) in
    throughout_part c.args.window.now.start c.args.from c.args.to c.survey_of.result.right c.args.to longer (λ q w. within_last inside w) c.in-Some.ensures.exists
    (λ h v q w on p.
    let covered = c.in-Some.ensures.covers h v p in
    c.lit_parts-last.ensures.no (opposite h) v (c.reversed.ensures h (opposite h) v refl (record { p = covered.0; g = covered.1 }))
    (among_last c.args.from c.args.to _ c.survey_of.result.right q h longer certain.0 certain.1 on w))

pub returns-in-None-clause-first_no : goal.returns-in-None-clause-first_no
returns-in-None-clause-first_no c is = absurd (omega (arith, (c.survey_of-in-None.ensures.first_no is).0))

pub returns-in-None-clause-last_no : goal.returns-in-None-clause-last_no
returns-in-None-clause-last_no c is = absurd (omega (arith, (c.survey_of-in-None.ensures.last_no is).0))
