use Rattle.std.proofs.Common.{subst, sym, pos, negsuc, ◌^◌}
use Rattle.elements.specs.Elements.{record_of_elements}
use Rattle.fixed_iv.specs.EnclosedVector.{CoversVector}
use Rattle.fixed_iv.specs.Reach.{from_to, ◌+ᴿ◌, ◌-ᴿ◌, ◌*ᴿ◌}
use Rattle.fixed_iv.proofs.Held.{claim_held, within}
use Rattle.sgp4_model.specs.Sun.{IsSun}
use Rattle.sgp4_model.proofs.SolutionExists.{lit_solution_exists}
use Rattle.orbit_sight.specs.Cell.{time_of_place}
use Rattle.orbit_sight.specs.Lit.{square_of}
use Rattle.exact.specs.Rational.{ratio, ◌≤ℚ◌}
use Rattle.orbit_sight.specs.Over.{cell_of, instant_on, place_on}
use Rattle.orbit_sight.proofs.CellLemmas.{instant_is}
use Rattle.orbit_sight.proofs.DayLemmas.{spread_by, sun_held, sun_room}
use Rattle.orbit_sight.proofs.LitLemmas.{depth_inside, depth_range, far_light, position_of_light, sun_square}
use Rattle.orbit_sight.proofs.lit_over.shade_over.Goals as goal

pub returns-in_err-position-clause-exists : goal.returns-in_err-position-clause-exists
returns-in_err-position-clause-exists g c h =
    let some = c.in_err-position.ensures.exists h in
    lit_solution_exists _ _ some.0 some.1

pub returns-in_err-position-clause-far : goal.returns-in_err-position-clause-far
returns-in_err-position-clause-far g c h v p =
    let square = (c.in_err-position.ensures.far h p.position (position_of_light p)).square in
    subst (λ v. ratio (pos 1069) 1000 ≤ℚ square_of v) (sym p.numbers_are) (far_light _ _ square)

pub returns-in_err-position-clause-least : goal.returns-in_err-position-clause-least
returns-in_err-position-clause-least g c told least = absurd (c.in_err-position.ensures.least told least)

pub returns-clause-exists : goal.returns-clause-exists
returns-clause-exists g c h =
    let some = c.in_ok-position.ensures.exists h in
    lit_solution_exists _ _ some.0 some.1

pub returns-clause-far : goal.returns-clause-far
returns-clause-far g c h v p =
    let square = (c.in_ok-position.ensures.far h p.position (position_of_light p)).square in
    subst (λ v. ratio (pos 1069) 1000 ≤ℚ square_of v) (sym p.numbers_are) (far_light _ _ square)

pub returns-clause-covers : goal.returns-clause-covers
returns-clause-covers g c h v p =
    let start = c.args.window.now.start in
    let place = place_on (cell_of start c.args.from c.args.to) h in
    let at = c.in_ok-position.ensures.covers h p.position (position_of_light p) in
    let position : CoversVector g.E.Enc.covers c.in_ok-position.position h p.position = record { x = at.x; y = at.y; z = at.z } in
    let toward = subst (λ z. IsSun p.pi z p.sun) (instant_is start place) p.is_sun in
    let sun = (rw c.start.ensures.value at c.sun_direction-sun.ensures.covers) h p.pi (time_of_place place) p.sun p.is_pi (c.time_over.ensures.along h) toward in
    subst (λ v. g.E.Enc.covers c.shade.result.p h v.p × g.E.Enc.covers c.shade.result.g h v.g) (sym p.numbers_are) (c.shade.ensures.covers h p.position p.sun position sun)

pub returns-clause-least : goal.returns-clause-least
unfolding ◌+ᴿ◌ ◌-ᴿ◌ ◌*ᴿ◌
returns-clause-least g c told least =
    let start = c.args.window.now.start in
    let q = c.in_ok-position.ensures.least told least in
    let h = q.at in
    let place = place_on (cell_of start c.args.from c.args.to) h in
    let near = (c.in_ok-position.ensures.far h q.r q.is).most in
    let p = (lit_solution_exists (record_of_elements c.args.craft.now) (instant_on (cell_of start c.args.from c.args.to) h) q.r q.is).1 in
    let time = c.time_over.ensures.narrow told least in
    let one = c.time_over.ensures.within told in
    let along = c.time_over.ensures.along h in
    let toward = subst (λ z. IsSun p.pi z p.sun) (instant_is start place) p.is_sun in
    let covers = (rw c.start.ensures.value at c.sun_direction-sun.ensures.covers) h p.pi (time_of_place place) p.sun p.is_pi along toward in
    let sun = sun_held 57536 p.is_pi toward covers
    (λ t. spread_by 2 256 57536 time sun_room (c.sun_direction-sun.ensures.narrow_x h _ along t one))
    (λ t. spread_by 2 256 57536 time sun_room (c.sun_direction-sun.ensures.narrow_y h _ along t one))
    (λ t. spread_by 2 256 57536 time sun_room (c.sun_direction-sun.ensures.narrow_z h _ along t one)) in
    let depth = c.shade.ensures.p.gives q.held.x q.held.y q.held.z sun.x sun.y sun.z in
    let claimed = claim_held depth_range depth (depth_inside _ _ _ _ _ _ near (sun_square p.is_pi p.is_sun)) in
    let height = c.shade.ensures.g.gives q.held.x q.held.y q.held.z claimed in
    let known_p = (within (from_to (negsuc 99) (pos 100) 1 (2 ^ 31)) depth tt).known told tt in
    let known_g = (within (from_to (negsuc 999) (pos 1000) 1 (2 ^ 35)) height tt).known told tt in
    record {
      p = record { measured = known_p.measured; spread = known_p.narrow };
      g = record { measured = known_g.measured; spread = known_g.narrow };
    }
