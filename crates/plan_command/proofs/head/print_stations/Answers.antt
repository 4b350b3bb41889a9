use Rattle.std.proofs.Common.{◌+◌, ap, sym, ◌∙◌}
use Rattle.plan_text.specs.HeadLines.{station_line}
use Rattle.run_ends.proofs.PrintedLemmas.{failed}
use Rattle.plan_command.proofs.NumberedLemmas.{one_cut, one_more}
use Rattle.plan_command.proofs.PartLemmas.{station_lines_are}
use Rattle.plan_command.proofs.head.print_stations.Goals as goal

pub returns-in_err-put_line : goal.returns-in_err-put_line
returns-in_err-put_line g c =
    let line = c.bytes-in-loop-k.ensures.value ∙ c.station_line.ensures ∙ ap (station_line (c.loop-k.k + 1)) c.bytes.ensures in
    failed _ c.from_residual.ensures.0
    (one_cut station_lines_are c.station_name-name.result.now (sym c.station_name-name.ensures.value) c.loop-k.invariant
    (rw line at c.in_err-put_line.ensures))

pub loop-k-preserved : goal.loop-k-preserved
loop-k-preserved g c =
    let line = c.bytes-in-loop-k.ensures.value ∙ c.station_line.ensures ∙ ap (station_line (c.loop-k.k + 1)) c.bytes.ensures in
    one_more station_lines_are c.station_name-name.result.now (sym c.station_name-name.ensures.value) c.loop-k.invariant
    (rw line at c.in_ok-put_line.ensures)
