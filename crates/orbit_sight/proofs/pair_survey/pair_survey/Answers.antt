use Rattle.std.proofs.Common.{refl, arith, false, subst, ◌<◌, ◌≤◌}
use Rattle.elements.specs.Elements.{record_of_elements}
use Rattle.earth_frame.proofs.OffsetLemmas.{kept_offset}
use Rattle.fixed_iv.specs.Extent.{extent_of}
use Rattle.fixed_iv.specs.declared.enc.Enc.{Ghosts}
use Rattle.lin_form.specs.Covered.{IsCovered}
use Rattle.lin_form.specs.declared.lin.Lin.{Lin}
use Rattle.sgp4_model.specs.Grazing.{IsHidden, IsVisible}
use Rattle.sgp4_model.specs.Mask.{IsAbove, IsBelow}
use Rattle.sgp4_model.specs.Time.{IsWithin}
use Rattle.orbit_sight.specs.Over.{cell_of}
use Rattle.orbit_sight.specs.Scene.{record_of_station}
use Rattle.orbit_sight.proofs.SideLemmas.{each_covered, throughout_part}
use Rattle.orbit_sight.proofs.SurveyLemmas.{among_first, among_last, opposite, within_first, within_last}
use Rattle.orbit_sight.proofs.pair_survey.pair_survey.Goals as goal

abbrev lin_enc : Ghosts Lin
lin_enc = record { covers = IsCovered; tells = false; extent = λ a. extent_of a.range }

pub returns-in-Some-clause-first_yes : goal.returns-in-Some-clause-first_yes
returns-in-Some-clause-first_yes c is =
    let certain = c.survey_of.ensures.first_yes is in
    let kept = kept_offset c.args.dut1_ms c.requires.offset in
    let set = record_of_elements c.args.craft.now in
    let start = c.args.window.now.start in
    let cell = cell_of start c.args.from c.args.to in
    let station = c.args.station.now in
    let longer : c.args.from < c.args.to = omega (arith, c.requires.longer) in
    let inside : c.survey_of.result.left ≤ c.args.to = omega (arith, c.survey_of.ensures.left.1, c.survey_of.ensures.right.1) in
    throughout_part set (record_of_station station) start c.args.from c.args.to c.args.from c.survey_of.result.left c.args.dut1_ms IsVisible longer (λ q w. within_first inside w)
    (λ h q w on. each_covered lin_enc (λ a h x k. k.ranged) set c.args.dut1_ms cell c.in-Some.scene station (rw kept at c.in-Some.ensures.covers) c.in-Some.ensures.exists c.in-Some.ensures.far IsAbove c.lengths-seen.ensures.covers h
    (λ pi pairs v range is_pi are above covered.
    c.mask_parts-first.ensures.yes h (among_first c.args.from c.args.to _ q h longer certain.0 on (subst (λ t. IsWithin c.args.from t q) certain.1 w)) pi pairs v range is_pi are above
    (record { east = covered.east; north = covered.north; up = covered.up; range = covered.range })))

pub returns-in-Some-clause-last_yes : goal.returns-in-Some-clause-last_yes
returns-in-Some-clause-last_yes c is =
    let certain = c.survey_of.ensures.last_yes is in
    let kept = kept_offset c.args.dut1_ms c.requires.offset in
    let set = record_of_elements c.args.craft.now in
    let start = c.args.window.now.start in
    let cell = cell_of start c.args.from c.args.to in
    let station = c.args.station.now in
    let longer : c.args.from < c.args.to = omega (arith, c.requires.longer) in
    let inside : c.args.from ≤ c.survey_of.result.right = omega (arith, c.survey_of.ensures.right.0) in
    throughout_part set (record_of_station station) start c.args.from c.args.to c.survey_of.result.right c.args.to c.args.dut1_ms IsVisible longer (λ q w. within_last inside w)
    (λ h q w on. each_covered lin_enc (λ a h x k. k.ranged) set c.args.dut1_ms cell c.in-Some.scene station (rw kept at c.in-Some.ensures.covers) c.in-Some.ensures.exists c.in-Some.ensures.far IsAbove c.lengths-seen.ensures.covers h
    (λ pi pairs v range is_pi are above covered.
    c.mask_parts-last.ensures.yes (opposite h) (among_last c.args.from c.args.to _ c.survey_of.result.right q h longer certain.0 certain.1 on w) pi pairs v range is_pi are above
    (c.reversed.ensures h (opposite h) _ refl (record { east = covered.east; north = covered.north; up = covered.up; range = covered.range }))))

pub returns-in-None-clause-first_yes : goal.returns-in-None-clause-first_yes
returns-in-None-clause-first_yes c is = absurd (omega (arith, (c.survey_of-in-None.ensures.first_yes is).0))

pub returns-in-None-clause-last_yes : goal.returns-in-None-clause-last_yes
returns-in-None-clause-last_yes c is = absurd (omega (arith, (c.survey_of-in-None.ensures.last_yes is).0))

pub returns-in-Some-clause-first_no : goal.returns-in-Some-clause-first_no
returns-in-Some-clause-first_no c is =
    let certain = c.survey_of.ensures.first_no is in
    let kept = kept_offset c.args.dut1_ms c.requires.offset in
    let set = record_of_elements c.args.craft.now in
    let start = c.args.window.now.start in
    let cell = cell_of start c.args.from c.args.to in
    let station = c.args.station.now in
    let longer : c.args.from < c.args.to = omega (arith, c.requires.longer) in
    let inside : c.survey_of.result.left ≤ c.args.to = omega (arith, c.survey_of.ensures.left.1, c.survey_of.ensures.right.1) in
    throughout_part set (record_of_station station) start c.args.from c.args.to c.args.from c.survey_of.result.left c.args.dut1_ms IsHidden longer (λ q w. within_first inside w)
    (λ h q w on. each_covered lin_enc (λ a h x k. k.ranged) set c.args.dut1_ms cell c.in-Some.scene station (rw kept at c.in-Some.ensures.covers) c.in-Some.ensures.exists c.in-Some.ensures.far IsBelow c.lengths-seen.ensures.covers h
    (λ pi pairs v range is_pi are above covered.
    c.mask_parts-first.ensures.no h (among_first c.args.from c.args.to _ q h longer certain.0 on (subst (λ t. IsWithin c.args.from t q) certain.1 w)) pi pairs v range is_pi are above
    (record { east = covered.east; north = covered.north; up = covered.up; range = covered.range })))

pub returns-in-Some-clause-last_no : goal.returns-in-Some-clause-last_no
returns-in-Some-clause-last_no c is =
    let certain = c.survey_of.ensures.last_no is in
    let kept = kept_offset c.args.dut1_ms c.requires.offset in
    let set = record_of_elements c.args.craft.now in
    let start = c.args.window.now.start in
    let cell = cell_of start c.args.from c.args.to in
    let station = c.args.station.now in
    let longer : c.args.from < c.args.to = omega (arith, c.requires.longer) in
    let inside : c.args.from ≤ c.survey_of.result.right = omega (arith, c.survey_of.ensures.right.0) in
    throughout_part set (record_of_station station) start c.args.from c.args.to c.survey_of.result.right c.args.to c.args.dut1_ms IsHidden longer (λ q w. within_last inside w)
    (λ h q w on. each_covered lin_enc (λ a h x k. k.ranged) set c.args.dut1_ms cell c.in-Some.scene station (rw kept at c.in-Some.ensures.covers) c.in-Some.ensures.exists c.in-Some.ensures.far IsBelow c.lengths-seen.ensures.covers h
    (λ pi pairs v range is_pi are above covered.
    c.mask_parts-last.ensures.no (opposite h) (among_last c.args.from c.args.to _ c.survey_of.result.right q h longer certain.0 certain.1 on w) pi pairs v range is_pi are above
    (c.reversed.ensures h (opposite h) _ refl (record { east = covered.east; north = covered.north; up = covered.up; range = covered.range }))))

pub returns-in-None-clause-first_no : goal.returns-in-None-clause-first_no
returns-in-None-clause-first_no c is = absurd (omega (arith, (c.survey_of-in-None.ensures.first_no is).0))

pub returns-in-None-clause-last_no : goal.returns-in-None-clause-last_no
returns-in-None-clause-last_no c is = absurd (omega (arith, (c.survey_of-in-None.ensures.last_no is).0))
