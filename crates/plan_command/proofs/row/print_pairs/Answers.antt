use Rattle.std.proofs.Common.{arith, ap, sym, ◌∙◌, None, Some}
use Rattle.std.proofs.lemmas.List.{length-map}
use Rattle.std.specs.Prelude.{option_copied, slice_get}
use Rattle.plan_core.specs.State.{row_of}
use Rattle.run_ends.proofs.PrintedLemmas.{failed}
use Rattle.station_file.specs.declared.row.StationRow.{StationRow}
use Rattle.plan_command.proofs.NumberedLemmas.{each_printed, nothing_more, one_cut, one_more}
use Rattle.plan_command.proofs.PartLemmas.{pair_blocks_are, row_at, rows_few}
use Rattle.plan_command.proofs.row.print_pairs.Goals as goal
use Rattle.plan_command.proofs.row.print_pairs.Goals.{in-Some+in_ok-print_pair, in_default}

pub returns-in_err-print_pair : goal.returns-in_err-print_pair
returns-in_err-print_pair g c =
    let plan = c.args.plan.now in
    let o = slice_get plan.satellites c.args.sat in
    let answer = c.in-Some.answer.now in
    failed _ c.from_residual.ensures.0
    (one_cut (pair_blocks_are plan.setting.window.start c.args.number) (row_of plan.pool answer) (row_at plan o c.loop-station.station (Some answer) c.in-Some.ensures.value) c.loop-station.invariant
    c.in_err-print_pair.ensures)

pub loop-station-preserved : goal.loop-station-preserved
loop-station-preserved g c =
    let plan = c.args.plan.now in
    let o = slice_get plan.satellites c.args.sat in
    elim c.match-pair_row.branch [
      | in-Some+in_ok-print_pair w ↦
          rw w.out-is
          (one_more (pair_blocks_are plan.setting.window.start c.args.number) (row_of plan.pool w.in-Some.answer.now)
          (row_at plan o c.loop-station.station (Some w.in-Some.answer.now) w.in-Some.ensures.value) c.loop-station.invariant w.in_ok-print_pair.ensures)
      | in_default w ↦
          rw w.out-is
          (nothing_more (pair_blocks_are plan.setting.window.start c.args.number)
          (row_at plan o c.loop-station.station None (sym (ap option_copied w.in_default.is) ∙ c.pair_row.ensures.value)) c.loop-station.invariant)
    ]

pub returns : goal.returns
returns g c =
    let plan = c.args.plan.now in
    each_printed (pair_blocks_are plan.setting.window.start c.args.number)
    (omega (arith, rows_few plan c.args.sat c.stations-station-end.ensures.plan, length-map plan.setting.stations.rows (λ (row : StationRow). row.name), c.stations-station-end.ensures.value, c.loop-station-test.false))
    c.loop-station.invariant
