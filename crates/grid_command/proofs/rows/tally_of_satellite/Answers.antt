use Rattle.std.proofs.Common.{arith, ap, sym, ◌∙◌, None, Some}
use Rattle.std.proofs.lemmas.List.{length-map}
use Rattle.std.specs.Prelude.{option_copied, slice_get}
use Rattle.plan_command.specs.Parts.{pair_rows}
use Rattle.plan_core.specs.State.{row_of}
use Rattle.station_file.specs.declared.row.StationRow.{StationRow}
use Rattle.plan_command.proofs.PartLemmas.{row_at, rows_few}
use Rattle.grid_command.specs.Tally.{tally_of}
use Rattle.grid_command.proofs.TallyLemmas.{nothing_more, part, room, rows_are, step, whole}
use Rattle.grid_command.proofs.rows.tally_of_satellite.Goals as goal
use Rattle.grid_command.proofs.rows.tally_of_satellite.Goals.{in-Some, in_default}

pub tally_of_answer-requires-clause-fits : goal.tally_of_answer-requires-clause-fits
tally_of_answer-requires-clause-fits c =
    let plan = c.args.plan.now in
    let o = slice_get plan.satellites c.args.sat in
    part rows_are (pair_rows plan o) c.loop-station.station (row_of plan.pool c.in-Some.answer.now) (row_at plan o c.loop-station.station (Some c.in-Some.answer.now) c.in-Some.ensures.value) c.requires.fits

pub both-tally-requires : goal.both-tally-requires
both-tally-requires c =
    let plan = c.args.plan.now in
    let o = slice_get plan.satellites c.args.sat in
    room rows_are (pair_rows plan o) c.loop-station.station (row_of plan.pool c.in-Some.answer.now) (row_at plan o c.loop-station.station (Some c.in-Some.answer.now) c.in-Some.ensures.value) c.requires.fits
    c.loop-station.tally c.tally_of_answer.result c.loop-station.invariant c.tally_of_answer.ensures

pub loop-station-preserved : goal.loop-station-preserved
loop-station-preserved c =
    let plan = c.args.plan.now in
    let o = slice_get plan.satellites c.args.sat in
    elim c.match-pair_row.branch [
      | in-Some w ↦
          w.tally-is ∙ w.both-tally.ensures
          ∙ step rows_are (pair_rows plan o) c.loop-station.station (row_of plan.pool w.in-Some.answer.now) (row_at plan o c.loop-station.station (Some w.in-Some.answer.now) w.in-Some.ensures.value)
          c.loop-station.tally w.tally_of_answer.result c.loop-station.invariant w.tally_of_answer.ensures
      | in_default w ↦
          w.tally-is
          ∙ nothing_more tally_of (pair_rows plan o) c.loop-station.station c.loop-station.tally
          (row_at plan o c.loop-station.station None (sym (ap option_copied w.in_default.is) ∙ c.pair_row.ensures.value)) c.loop-station.invariant
    ]

pub returns : goal.returns
returns c =
    let plan = c.args.plan.now in
    whole tally_of (pair_rows plan (slice_get plan.satellites c.args.sat)) c.loop-station.station c.loop-station.tally
    (omega (arith, rows_few plan c.args.sat c.stations-station-end.ensures.plan, length-map plan.setting.stations.rows (λ (row : StationRow). row.name), c.stations-station-end.ensures.value, c.loop-station-test.false))
    c.loop-station.invariant
