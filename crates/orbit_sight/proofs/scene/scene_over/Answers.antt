use Rattle.std.proofs.Common.{subst}
use Rattle.sgp4_model.specs.Sidereal.{IsSiderealPair}
use Rattle.orbit_sight.specs.Cell.{time_of_place}
use Rattle.orbit_sight.specs.Over.{cell_of, place_on}
use Rattle.orbit_sight.proofs.CellLemmas.{at_start, instant_is}
use Rattle.earth_frame.proofs.OffsetLemmas.{kept_offset}
use Rattle.orbit_sight.proofs.SceneLemmas.{spread_by, turn_room}
use Rattle.orbit_sight.proofs.scene.scene_over.Goals as goal

pub returns-in_err-position-clause-least : goal.returns-in_err-position-clause-least
returns-in_err-position-clause-least g c told least = absurd (c.in_err-position.ensures.least told least)

pub returns-clause-covers : goal.returns-clause-covers
returns-clause-covers g c = record {
  positions = c.in_ok-position.ensures.covers;
  turns = λ h pi pair is_pi is.
      let start = c.args.window.now.start in
      let place = place_on (cell_of start c.args.from c.args.to) h in
      let both = (rw (c.start.ensures.value, kept_offset c.args.dut1_ms c.requires.offset) at c.sidereal-turn.ensures.covers) h pi (time_of_place place) pair is_pi (c.time_over.ensures.along h) (subst (λ z. IsSiderealPair pi z c.args.dut1_ms pair) (instant_is start place) is) in
      record { sine = both.0; cosine = both.1 };
}

pub returns-clause-least : goal.returns-clause-least
returns-clause-least g c told least =
    let time = c.time_over.ensures.narrow told least in
    let within = c.time_over.ensures.within told in
    record {
      position = c.in_ok-position.ensures.least told least;
      sine = spread_by 80 64 2291264 time turn_room (c.sidereal-turn.ensures.narrow_sine at_start _ (c.time_over.ensures.along at_start) told within);
      cosine = spread_by 80 64 2291264 time turn_room (c.sidereal-turn.ensures.narrow_cosine at_start _ (c.time_over.ensures.along at_start) told within);
    }
