use Rattle.std.proofs.Common.{refl, ◌-ℤ◌}
use Rattle.enc_plain.proofs.PlainHeld.{middle}
use Rattle.sgp4_init.specs.ReachConsts.{reach_consts}
use Rattle.elements.specs.Elements.{record_of_elements}
use Rattle.sgp4_model.specs.Angle.{least_pi}
use Rattle.sgp4_model.specs.Time.{instant_of_nanos}
use Rattle.orbit_sight.specs.Craft.{plain_enc}
use Rattle.orbit_sight.proofs.MomentLemmas.{minutes_are}
use Rattle.orbit_sight.specs.Moment.{units_from}
use Rattle.orbit_sight.proofs.CraftLemmas.{if_kept, if_not_kept, position_held}
use Rattle.orbit_sight.proofs.SomePi.{some_pi}
use Rattle.orbit_sight.proofs.FoundLemmas.{away_unless, mean_of, not_out_of_guard, not_unplaced, in_instant_box, position_at, position_of}
use Rattle.orbit_sight.proofs.OrbitLemmas.{week_inside}
use Rattle.orbit_sight.proofs.SolutionLemmas.{solution}
use Rattle.orbit_sight.proofs.GuardLemmas.{mean_within, position_within}
use Rattle.orbit_sight.proofs.TakenBoxesLemmas.{instant_fits}
use Rattle.orbit_sight.proofs.WidthLemmas.{bounded, narrow, time_held, wider}
use Rattle.orbit_sight.specs.TakenBoxes.{instant_box}
use Rattle.orbit_sight.proofs.craft.Craft.bounds_at.Goals as goal

pub returns-in-Some-place-clause-holds : goal.returns-in-Some-place-clause-holds
returns-in-Some-place-clause-holds c =
    rw (← c.self.view_is)
    (if_kept _ c.bounded.result c.bounds_of.result c.bounded.ensures.some
    (λ r p. rw c.bounds_of.ensures
    (position_held c.self.inside.set c.args.at c.self.inside.consts (record { iv = c.time_from.result }) c.in-Some.mean c.in-Some-place.position r c.self.invariant
    (λ h. rw c.epoch.ensures.value at c.time_from.ensures.holds _ refl) c.in-Some.ensures.covers c.in-Some-place.ensures.covers p)))

pub returns-in-Some-place-clause-narrow : goal.returns-in-Some-place-clause-narrow
returns-in-Some-place-clause-narrow c =
    let set = c.self.inside.set in
    let consts = c.self.inside.consts in
    rw (← c.self.view_is)
    (if_kept (λ v. _) c.bounded.result c.bounds_of.result c.bounded.ensures.some
    (λ near.
    let x = units_from set.epoch c.args.at in
    let known_at = solution set x consts c.epoch.ensures.elements c.self.invariant (week_inside (c.args.at -ℤ set.epoch) near) in
    let time = time_held set c.args.at (record { iv = c.time_from.result }) (rw c.epoch.ensures.value at c.time_from.ensures) (week_inside (c.args.at -ℤ set.epoch) near) middle in
    let mean = mean_within (λ a h x k. k) tt reach_consts instant_box instant_fits (c.in-Some.ensures.held middle least_pi x known_at.constants known_at.mean reach_consts instant_box.time instant_box.drag known_at.held time known_at.drag_in_box some_pi (mean_of set x consts known_at)) in
    rw c.bounds_of.ensures
    (wider (narrow instant_box tt (position_within (λ a h x k. k) tt reach_consts instant_box instant_fits
    (c.in-Some-place.ensures.held middle least_pi known_at.root known_at.constants known_at.mean known_at.position reach_consts instant_box.mean instant_box.position some_pi known_at.held mean (position_of set x consts known_at) known_at.in_box))))))

pub returns-in-Some-place-clause-exists : goal.returns-in-Some-place-clause-exists
returns-in-Some-place-clause-exists c =
    rw (← c.self.view_is)
    (λ near.
    let set = c.self.inside.set in
    let x = units_from set.epoch c.args.at in
    position_at set x c.self.inside.consts (solution set x c.self.inside.consts c.epoch.ensures.elements c.self.invariant (week_inside (c.args.at -ℤ set.epoch) near))
    (instant_of_nanos c.args.at) (minutes_are (record_of_elements set) c.args.at))

pub returns-in-Some-place-clause-none : goal.returns-in-Some-place-clause-none
returns-in-Some-place-clause-none c =
    let set = c.self.inside.set in
    let consts = c.self.inside.consts in
    rw (← c.self.view_is)
    (if_not_kept _ c.bounded.result c.bounds_of.result c.bounded.ensures.none
    (λ u. away_unless (c.args.at -ℤ set.epoch) (λ near.
    let x = units_from set.epoch c.args.at in
    let known_at = solution set x consts c.epoch.ensures.elements c.self.invariant (week_inside (c.args.at -ℤ set.epoch) near) in
    let time = time_held set c.args.at (record { iv = c.time_from.result }) (rw c.epoch.ensures.value at c.time_from.ensures) (week_inside (c.args.at -ℤ set.epoch) near) middle in
    let mean = mean_within (λ a h x k. k) tt reach_consts instant_box instant_fits (c.in-Some.ensures.held middle least_pi x known_at.constants known_at.mean reach_consts instant_box.time instant_box.drag known_at.held time known_at.drag_in_box some_pi (mean_of set x consts known_at)) in
    (rw c.bounds_of.ensures at u)
    (bounded instant_box tt (position_within (λ a h x k. k) tt reach_consts instant_box instant_fits
    (c.in-Some-place.ensures.held middle least_pi known_at.root known_at.constants known_at.mean known_at.position reach_consts instant_box.mean instant_box.position some_pi known_at.held mean (position_of set x consts known_at) known_at.in_box))))))

pub returns-in-None-place-clause-exists : goal.returns-in-None-place-clause-exists
returns-in-None-place-clause-exists c =
    rw (← c.self.view_is)
    (λ near.
    let set = c.self.inside.set in
    let x = units_from set.epoch c.args.at in
    position_at set x c.self.inside.consts (solution set x c.self.inside.consts c.epoch.ensures.elements c.self.invariant (week_inside (c.args.at -ℤ set.epoch) near))
    (instant_of_nanos c.args.at) (minutes_are (record_of_elements set) c.args.at))

pub returns-in-None-place-clause-none : goal.returns-in-None-place-clause-none
returns-in-None-place-clause-none c =
    let set = c.self.inside.set in
    let consts = c.self.inside.consts in
    rw (← c.self.view_is)
    (away_unless (c.args.at -ℤ set.epoch) (λ near.
    let x = units_from set.epoch c.args.at in
    let known_at = solution set x consts c.epoch.ensures.elements c.self.invariant (week_inside (c.args.at -ℤ set.epoch) near) in
    let time = time_held set c.args.at (record { iv = c.time_from.result }) (rw c.epoch.ensures.value at c.time_from.ensures) (week_inside (c.args.at -ℤ set.epoch) near) middle in
    let mean = mean_within (λ a h x k. k) tt reach_consts instant_box instant_fits (c.in-Some.ensures.held middle least_pi x known_at.constants known_at.mean reach_consts instant_box.time instant_box.drag known_at.held time known_at.drag_in_box some_pi (mean_of set x consts known_at)) in
    not_unplaced plain_enc (λ a h x k. k) tt instant_box instant_fits set x consts known_at (in_instant_box set x consts known_at) consts known_at.held c.in-Some.mean mean c.in-None-place.ensures.none))

pub returns-in-None-clause-exists : goal.returns-in-None-clause-exists
returns-in-None-clause-exists c =
    rw (← c.self.view_is)
    (λ near.
    let set = c.self.inside.set in
    let x = units_from set.epoch c.args.at in
    position_at set x c.self.inside.consts (solution set x c.self.inside.consts c.epoch.ensures.elements c.self.invariant (week_inside (c.args.at -ℤ set.epoch) near))
    (instant_of_nanos c.args.at) (minutes_are (record_of_elements set) c.args.at))

pub returns-in-None-clause-none : goal.returns-in-None-clause-none
returns-in-None-clause-none c =
    let set = c.self.inside.set in
    let consts = c.self.inside.consts in
    rw (← c.self.view_is)
    (away_unless (c.args.at -ℤ set.epoch) (λ near.
    let x = units_from set.epoch c.args.at in
    let known_at = solution set x consts c.epoch.ensures.elements c.self.invariant (week_inside (c.args.at -ℤ set.epoch) near) in
    let time = time_held set c.args.at (record { iv = c.time_from.result }) (rw c.epoch.ensures.value at c.time_from.ensures) (week_inside (c.args.at -ℤ set.epoch) near) middle in
    not_out_of_guard plain_enc (λ a h x k. k) tt instant_box instant_fits set x consts known_at (in_instant_box set x consts known_at) consts known_at.held (record { iv = c.time_from.result }) time c.in-None.ensures.none))
