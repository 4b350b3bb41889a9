use Rattle.std.proofs.Common.{sym, subst, pos, negsuc}
use Rattle.exact.specs.Rational.{of_int}
use Rattle.earth_frame.proofs.OffsetLemmas.{kept_offset}
use Rattle.fixed_iv.specs.Reach.{from_to, negative, nothing, ◌+ᴿ◌, ◌*ᴿ◌}
use Rattle.fixed_iv.proofs.Held.{covered, within}
use Rattle.sgp4_model.specs.Sidereal.{IsSiderealPair}
use Rattle.sgp4_model.specs.Sun.{IsSun}
use Rattle.sgp4_model.specs.Time.{instant_of_place}
use Rattle.sgp4_model.proofs.DayExists.{day_solution_exists}
use Rattle.sgp4_model.proofs.Pythagoras.{sine_pairs_are_bounded}
use Rattle.station_view.specs.SpotPairs.{ArePairsOf}
use Rattle.orbit_sight.specs.Cell.{time_of_place}
use Rattle.orbit_sight.specs.Over.{cell_of, place_on}
use Rattle.orbit_sight.proofs.CellLemmas.{instant_is, start_within}
use Rattle.orbit_sight.proofs.DayLemmas.{spread_by, sun_held, sun_room, turn_is_held, turn_room}
use Rattle.orbit_sight.proofs.daylight.light_over.Goals as goal

pub returns-clause-along : goal.returns-clause-along
returns-clause-along g c h product s =
    let start = c.args.start in
    let place = place_on (cell_of start c.args.from c.args.to) h in
    let time = c.time_over-t.ensures.along h in
    let kept = kept_offset c.args.dut1_ms c.requires.offset in
    let angle = subst (λ t. IsSiderealPair s.pi t c.args.dut1_ms s.turn) (instant_is start place) s.is_sidereal in
    let toward = subst (λ t. IsSun s.pi t s.sun) (instant_is start place) s.is_sun in
    let turn = (rw kept at c.sidereal.ensures.covers) h s.pi (time_of_place place) s.turn s.is_pi time angle in
    let sun = c.sun_direction.ensures.covers h s.pi (time_of_place place) s.sun s.is_pi time toward in
    let pairs : ArePairsOf c.args.spot.now s.pi s.of_latitude s.of_longitude = record { is_pi = s.is_pi; is_latitude = s.is_latitude; is_longitude = s.is_longitude } in
    let light = c.daylight.ensures h s.pi s.of_latitude s.of_longitude s.turn s.sun nothing nothing (record { x = nothing; y = nothing; z = nothing })
    pairs (covered turn.0) (covered turn.1) (record { x = covered sun.x; y = covered sun.y; z = covered sun.z }) in
    subst (g.E.Enc.covers c.daylight.result h) (sym s.product_is) light.covers

pub returns-clause-covers : goal.returns-clause-covers
returns-clause-covers g c place product w s =
    let on = c.time_over-t.ensures.covers place w in
    let kept = kept_offset c.args.dut1_ms c.requires.offset in
    let angle = subst (λ t. IsSiderealPair s.pi t c.args.dut1_ms s.turn) (instant_is c.args.start place) s.is_sidereal in
    let toward = subst (λ t. IsSun s.pi t s.sun) (instant_is c.args.start place) s.is_sun in
    let turn = (rw kept at c.sidereal.ensures.covers) on.at s.pi _ s.turn s.is_pi on.covered angle in
    let sun = c.sun_direction.ensures.covers on.at s.pi _ s.sun s.is_pi on.covered toward in
    let pairs : ArePairsOf c.args.spot.now s.pi s.of_latitude s.of_longitude = record { is_pi = s.is_pi; is_latitude = s.is_latitude; is_longitude = s.is_longitude } in
    let light = c.daylight.ensures on.at s.pi s.of_latitude s.of_longitude s.turn s.sun nothing nothing (record { x = nothing; y = nothing; z = nothing })
    pairs (covered turn.0) (covered turn.1) (record { x = covered sun.x; y = covered sun.y; z = covered sun.z }) in
    record { at = on.at; covered = subst (g.E.Enc.covers c.daylight.result on.at) (sym s.product_is) light.covers }

pub returns-clause-narrow : goal.returns-clause-narrow
unfolding ◌+ᴿ◌ ◌*ᴿ◌ negative
returns-clause-narrow g c told least =
    let place = of_int (pos c.args.from) in
    let s = (day_solution_exists _ _ (instant_of_place c.args.start place) c.args.dut1_ms).1 in
    let on = c.time_over-t.ensures.covers place (start_within c.requires.not_empty) in
    let one = c.time_over-t.ensures.within told in
    let spread = c.time_over-t.ensures.narrow told least in
    let kept = kept_offset c.args.dut1_ms c.requires.offset in
    let angle = subst (λ t. IsSiderealPair s.pi t c.args.dut1_ms s.turn) (instant_is c.args.start place) s.is_sidereal in
    let toward = subst (λ t. IsSun s.pi t s.sun) (instant_is c.args.start place) s.is_sun in
    let turn = (rw kept at c.sidereal.ensures.covers) on.at s.pi _ s.turn s.is_pi on.covered angle in
    let sun = c.sun_direction.ensures.covers on.at s.pi _ s.sun s.is_pi on.covered toward in
    let size = sine_pairs_are_bounded _ _ _ _ s.is_pi s.is_sidereal in
    let sine = turn_is_held 2291264 size.0 turn.0 (λ t. spread_by 80 64 2291264 spread turn_room (c.sidereal.ensures.narrow_sine on.at _ on.covered t one)) in
    let cosine = turn_is_held 2291264 size.1 turn.1 (λ t. spread_by 80 64 2291264 spread turn_room (c.sidereal.ensures.narrow_cosine on.at _ on.covered t one)) in
    let rays = sun_held 57536 s.is_pi toward sun
    (λ t. spread_by 2 256 57536 spread sun_room (c.sun_direction.ensures.narrow_x on.at _ on.covered t one))
    (λ t. spread_by 2 256 57536 spread sun_room (c.sun_direction.ensures.narrow_y on.at _ on.covered t one))
    (λ t. spread_by 2 256 57536 spread sun_room (c.sun_direction.ensures.narrow_z on.at _ on.covered t one)) in
    let pairs : ArePairsOf c.args.spot.now s.pi s.of_latitude s.of_longitude = record { is_pi = s.is_pi; is_latitude = s.is_latitude; is_longitude = s.is_longitude } in
    let light = c.daylight.ensures on.at s.pi s.of_latitude s.of_longitude s.turn s.sun _ _ _ pairs sine cosine rays in
    let known = (within (from_to (negsuc 8) (pos 9) 1 33554432) light tt).known told tt in
    record { measured = known.measured; spread = known.narrow }
