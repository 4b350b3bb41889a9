use Rattle.std.proofs.Common.{refl, sym, subst, arith, ◌<◌, ◌*◌, ◌^◌, ℕ, ℤ, pos, ◌-ℤ◌, unsigned_abs}
use Rattle.exact.specs.Rational.{ℚ, of_int, ◌+ℚ◌}
use Rattle.elements.specs.Elements.{record_of_elements}
use Rattle.elements.specs.Window.{tick_instant}
use Rattle.fixed_iv.specs.Place.{Place, on_line}
use Rattle.sgp4_init.specs.ReachConsts.{reach_consts}
use Rattle.sgp4_model.specs.Angle.{least_pi}
use Rattle.sgp4_model.specs.MeanElements.{IsMean}
use Rattle.sgp4_model.specs.Time.{instant_of_place}
use Rattle.orbit_sight.specs.Cell.{time_of_place}
use Rattle.orbit_sight.specs.Moment.{units_from}
use Rattle.orbit_sight.specs.Over.{cell_of, instant_on, place_on}
use Rattle.orbit_sight.specs.TakenBoxes.{cell_box}
use Rattle.orbit_sight.proofs.CellLemmas.{at_start, line_starts}
use Rattle.orbit_sight.proofs.CraftLemmas.{always_there, if_there}
use Rattle.orbit_sight.proofs.SomePi.{some_pi}
use Rattle.orbit_sight.proofs.FoundLemmas.{in_cell_box, is_position_at, mean_of, not_out_of_guard, not_unplaced, position_at, position_of}
use Rattle.orbit_sight.proofs.GuardLemmas.{mean_within, position_within}
use Rattle.orbit_sight.proofs.LiftLemmas.{lifted_held}
use Rattle.orbit_sight.proofs.OrbitLemmas.{WeekInside, week_inside}
use Rattle.orbit_sight.proofs.OverLemmas.{cell_time_held, far_out, line_near, minutes_at_start, minutes_over, spread_of_position}
use Rattle.orbit_sight.proofs.SolutionLemmas.{solution}
use Rattle.orbit_sight.proofs.TakenBoxesLemmas.{cell_fits}
use Rattle.orbit_sight.proofs.position.position_over.Goals as goal

pub returns-in-Some-clause-covers : goal.returns-in-Some-clause-covers
returns-in-Some-clause-covers g c =
    if_there c.place.result c.place.ensures.covers
    (λ v positions h r p.
    let set = c.args.set.now in
    let place = on_line h (of_int (pos c.args.from)) (of_int (pos c.args.to)) in
    let consts = c.lift-lifted.ensures.covers p.constants (c.requires.craft.enclosed p.pi p.constants p.pi_is p.constants_are) in
    let shift = c.constant-shift.ensures.covers h (units_from set.epoch c.args.start) (rw c.epoch.ensures.value at c.time_from.ensures.holds _ refl) in
    let time = c.plus-time.ensures.covers h _ _ shift (c.time_over.ensures.along h) in
    let mean = c.in-Some.ensures.covers h p.pi (units_from set.epoch c.args.start +ℚ time_of_place place) p.constants p.mean consts time p.pi_is
    (subst (λ z. IsMean p.constants p.pi z p.mean) (sym (minutes_over (record_of_elements set) c.args.start place)) p.mean_is) in
    positions h p.pi p.root p.constants p.mean r p.pi_is consts mean p.position_is)

pub returns-in-Some-clause-least : goal.returns-in-Some-clause-least
returns-in-Some-clause-least g c told least =
    let law = g.met.E.Enc.contained in
    let set = c.args.set.now in
    let start = c.args.start in
    let from = c.args.from in
    let at = tick_instant start from in
    let x = units_from set.epoch at in
    let known_at = solution set x c.args.consts.now c.epoch.ensures.elements c.requires.craft (week_inside (at -ℤ set.epoch) c.requires.near_cell) in
    let k = known_at.constants in
    let consts = lifted_held c.args.consts.now c.lift-lifted.result at_start k (c.requires.craft.held at_start least_pi k some_pi known_at.constants_are) c.lift-lifted.ensures.narrow
    (c.lift-lifted.ensures.covers k (c.requires.craft.enclosed least_pi k some_pi known_at.constants_are)) in
    let time = cell_time_held law set.epoch start from c.constant-shift.ensures.covers c.constant-shift.ensures.narrow c.plus-time.ensures.covers c.plus-time.ensures.narrow
    (rw c.epoch.ensures.value at c.time_from.ensures) (week_inside (start -ℤ set.epoch) c.requires.near_start) (week_inside (at -ℤ set.epoch) c.requires.near_cell) (omega (arith, c.requires.not_empty, c.requires.inside))
    (subst (λ z. g.E.Enc.covers c.time_over.result at_start (time_of_place z)) (line_starts _ _) (c.time_over.ensures.along at_start)) (λ t. c.time_over.ensures.narrow t least) in
    let mean = mean_within law told reach_consts cell_box cell_fits
    (c.in-Some.ensures.held at_start least_pi x k known_at.mean reach_consts cell_box.time cell_box.drag consts time known_at.drag_in_box some_pi (mean_of set x c.args.consts.now known_at)) in
    always_there c.place.result c.place.ensures.held c.place.ensures.none
    (λ v held.
    let is = is_position_at set x c.args.consts.now known_at (instant_on (cell_of start from c.args.to) at_start) (minutes_at_start (record_of_elements set) start from c.args.to) in
    let inside = position_within law told reach_consts cell_box cell_fits
    (held at_start least_pi known_at.root k known_at.mean known_at.position reach_consts cell_box.mean cell_box.position some_pi consts mean (position_of set x c.args.consts.now known_at) known_at.in_box) in
    record { spread = spread_of_position told cell_box tt inside; at = at_start; r = known_at.position; is = is; held = inside })
    (not_unplaced g.E.Enc law told cell_box cell_fits set x c.args.consts.now known_at (in_cell_box set x c.args.consts.now known_at) c.lift-lifted.result consts c.in-Some.mean mean)

pub returns-in-None-clause-least : goal.returns-in-None-clause-least
returns-in-None-clause-least g c told least =
    let law = g.met.E.Enc.contained in
    let set = c.args.set.now in
    let start = c.args.start in
    let from = c.args.from in
    let at = tick_instant start from in
    let x = units_from set.epoch at in
    let known_at = solution set x c.args.consts.now c.epoch.ensures.elements c.requires.craft (week_inside (at -ℤ set.epoch) c.requires.near_cell) in
    let k = known_at.constants in
    let consts = lifted_held c.args.consts.now c.lift-lifted.result at_start k (c.requires.craft.held at_start least_pi k some_pi known_at.constants_are) c.lift-lifted.ensures.narrow
    (c.lift-lifted.ensures.covers k (c.requires.craft.enclosed least_pi k some_pi known_at.constants_are)) in
    let time = cell_time_held law set.epoch start from c.constant-shift.ensures.covers c.constant-shift.ensures.narrow c.plus-time.ensures.covers c.plus-time.ensures.narrow
    (rw c.epoch.ensures.value at c.time_from.ensures) (week_inside (start -ℤ set.epoch) c.requires.near_start) (week_inside (at -ℤ set.epoch) c.requires.near_cell) (omega (arith, c.requires.not_empty, c.requires.inside))
    (subst (λ z. g.E.Enc.covers c.time_over.result at_start (time_of_place z)) (line_starts _ _) (c.time_over.ensures.along at_start)) (λ t. c.time_over.ensures.narrow t least) in
    not_out_of_guard g.E.Enc law told cell_box cell_fits set x c.args.consts.now known_at (in_cell_box set x c.args.consts.now known_at) c.lift-lifted.result consts c.plus-time.result time c.in-None.ensures.none

-- what holds of each solution and of each place, whatever is answered
abbrev time_on : ℤ → ℤ → ℚ → ℚ
time_on epoch start place = units_from epoch start +ℚ time_of_place place

near_on : (epoch start : ℤ) (from to : ℕ) → ((604800 * 10 ^ 9 < unsigned_abs (tick_instant start from -ℤ epoch)) → ⊥) → ((604800 * 10 ^ 9 < unsigned_abs (tick_instant start to -ℤ epoch)) → ⊥) →
    (h : Place) → WeekInside (time_on epoch start (place_on (cell_of start from to) h))
near_on epoch start from to first last h = line_near h epoch start from to (week_inside (tick_instant start from -ℤ epoch) first) (week_inside (tick_instant start to -ℤ epoch) last)

pub returns-in-Some-clause-far : goal.returns-in-Some-clause-far
returns-in-Some-clause-far g c h r p =
    let set = c.args.set.now in
    far_out set c.args.consts.now c.args.start (place_on (cell_of c.args.start c.args.from c.args.to) h) r c.requires.craft
    (near_on set.epoch c.args.start c.args.from c.args.to c.requires.near_cell c.requires.near_end h) p

pub returns-in-None-clause-far : goal.returns-in-None-clause-far
returns-in-None-clause-far g c h r p =
    let set = c.args.set.now in
    far_out set c.args.consts.now c.args.start (place_on (cell_of c.args.start c.args.from c.args.to) h) r c.requires.craft
    (near_on set.epoch c.args.start c.args.from c.args.to c.requires.near_cell c.requires.near_end h) p

pub returns-in-Some-clause-exists : goal.returns-in-Some-clause-exists
returns-in-Some-clause-exists g c h =
    let set = c.args.set.now in
    let place = place_on (cell_of c.args.start c.args.from c.args.to) h in
    let x = time_on set.epoch c.args.start place in
    position_at set x c.args.consts.now
    (solution set x c.args.consts.now c.epoch.ensures.elements c.requires.craft (near_on set.epoch c.args.start c.args.from c.args.to c.requires.near_cell c.requires.near_end h))
    (instant_of_place c.args.start place) (minutes_over (record_of_elements set) c.args.start place)

pub returns-in-None-clause-exists : goal.returns-in-None-clause-exists
returns-in-None-clause-exists g c h =
    let set = c.args.set.now in
    let place = place_on (cell_of c.args.start c.args.from c.args.to) h in
    let x = time_on set.epoch c.args.start place in
    position_at set x c.args.consts.now
    (solution set x c.args.consts.now c.epoch.ensures.elements c.requires.craft (near_on set.epoch c.args.start c.args.from c.args.to c.requires.near_cell c.requires.near_end h))
    (instant_of_place c.args.start place) (minutes_over (record_of_elements set) c.args.start place)
