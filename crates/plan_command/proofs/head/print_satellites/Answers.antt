use Rattle.std.proofs.Common.{ap, ◌∙◌}
use Rattle.std.specs.Prelude.{slice_get}
use Rattle.pass_text.specs.SatLine.{sat_line}
use Rattle.plan_core.specs.State.{satellite_of}
use Rattle.run_ends.proofs.PrintedLemmas.{failed, next_cut, one_more_printed}
use Rattle.plan_command.proofs.PartLemmas.{line_is, listed_at, name_fits, sat_lines_are, satellite_at}
use Rattle.plan_command.proofs.head.print_satellites.Goals as goal

pub sat_line-requires : goal.sat_line-requires
sat_line-requires g c =
    rw c.bytes.ensures (name_fits c.args.plan.now c.loop-k.k c.sat-row.result.now c.sat-row.ensures.plan c.sat-row.ensures.value)

pub returns-in_err-put_line : goal.returns-in_err-put_line
returns-in_err-put_line g c =
    let plan = c.args.plan.now in
    let row = c.sat-row.result.now in
    let found = listed_at (slice_get plan.satellites c.loop-k.k) row c.sat-row.ensures.value in
    let line =
    c.bytes-in-loop-k.ensures.value ∙ c.sat_line.ensures ∙ ap (sat_line row.number row.fate) c.bytes.ensures ∙ line_is plan.pool found.0 row found.2 in
    failed _ c.from_residual.ensures.0
    (next_cut sat_lines_are (satellite_of plan.pool found.0) (satellite_at plan c.loop-k.k found.0 found.1) c.loop-k.invariant
    (rw line at c.in_err-put_line.ensures))

pub loop-k-preserved : goal.loop-k-preserved
loop-k-preserved g c =
    let plan = c.args.plan.now in
    let row = c.sat-row.result.now in
    let found = listed_at (slice_get plan.satellites c.loop-k.k) row c.sat-row.ensures.value in
    let line =
    c.bytes-in-loop-k.ensures.value ∙ c.sat_line.ensures ∙ ap (sat_line row.number row.fate) c.bytes.ensures ∙ line_is plan.pool found.0 row found.2 in
    one_more_printed sat_lines_are (satellite_of plan.pool found.0) (satellite_at plan c.loop-k.k found.0 found.1) c.loop-k.invariant
    (rw line at c.in_ok-put_line.ensures)
