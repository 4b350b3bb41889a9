use Rattle.std.proofs.Common.{arith}
use Rattle.plan_core.specs.State.{satellite_of}
use Rattle.run_ends.proofs.PrintedLemmas.{failed, next_cut, one_more_printed}
use Rattle.plan_command.proofs.PartLemmas.{row_blocks_are, satellite_at}
use Rattle.plan_command.proofs.TableLemmas.{there}
use Rattle.plan_command.proofs.row.print_rows.Goals as goal

pub returns-in_err-print_satellite : goal.returns-in_err-print_satellite
returns-in_err-print_satellite g c =
    let plan = c.args.plan.now in
    let found = there plan.satellites c.loop-sat.sat (omega (arith, c.sats-sat-end.ensures.value, c.loop-sat-test.true)) in
    failed _ c.from_residual.ensures.0
    (next_cut (row_blocks_are plan.setting.window.start) (satellite_of plan.pool found.0) (satellite_at plan c.loop-sat.sat found.0 found.1) c.loop-sat.invariant
    (rw found.1 at c.in_err-print_satellite.ensures))

pub loop-sat-preserved : goal.loop-sat-preserved
loop-sat-preserved g c =
    let plan = c.args.plan.now in
    let found = there plan.satellites c.loop-sat.sat (omega (arith, c.sats-sat-end.ensures.value, c.loop-sat-test.true)) in
    one_more_printed (row_blocks_are plan.setting.window.start) (satellite_of plan.pool found.0) (satellite_at plan c.loop-sat.sat found.0 found.1) c.loop-sat.invariant
    (rw found.1 at c.in_ok-print_satellite.ensures)
