use Rattle.std.proofs.Common.{sym, ◌∙◌}
use Rattle.run_ends.proofs.PrintedLemmas.{failed, next_cut, one_more_printed}
use Rattle.plan_command.proofs.TableLemmas.{pass_lines_are}
use Rattle.plan_command.proofs.table.print_passes.Goals as goal

pub returns-in_err-put_line : goal.returns-in_err-put_line
returns-in_err-put_line g c =
    let line = c.bytes.ensures.value ∙ c.pass_line.ensures in
    failed _ c.from_residual.ensures.0
    (next_cut (pass_lines_are c.args.window.start) c.contact.result (sym c.contact.ensures) c.loop-k.invariant (rw line at c.in_err-put_line.ensures))

pub loop-k-preserved : goal.loop-k-preserved
loop-k-preserved g c =
    let line = c.bytes.ensures.value ∙ c.pass_line.ensures in
    one_more_printed (pass_lines_are c.args.window.start) c.contact.result (sym c.contact.ensures) c.loop-k.invariant (rw line at c.in_ok-put_line.ensures)
