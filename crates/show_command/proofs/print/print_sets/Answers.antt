use Rattle.std.proofs.Common.{ap, sym, ◌∙◌}
use Rattle.pass_text.specs.ShowLayout.{set_line}
use Rattle.run_ends.proofs.PrintedLemmas.{failed, next_cut, one_more_printed}
use Rattle.show_command.proofs.SetLineLemmas.{name_fits, set_lines_are}
use Rattle.show_command.proofs.print.print_sets.Goals as goal

pub set_line-requires : goal.set_line-requires
set_line-requires g c =
    let fits = name_fits c.args.catalogue.now c.loop-k.k c.entry-entry.result.now c.entry-entry.ensures.catalogue c.entry-entry.ensures.value in
    rw c.bytes.ensures fits

pub returns-in_err-put_line : goal.returns-in_err-put_line
returns-in_err-put_line g c =
    let line = c.bytes-in-loop-k.ensures.value ∙ c.set_line.ensures ∙ ap (set_line c.entry-entry.result.now.elements) c.bytes.ensures in
    failed _ c.from_residual.ensures.0
    (next_cut set_lines_are c.entry-entry.result.now (sym c.entry-entry.ensures.value) c.loop-k.invariant (rw line at c.in_err-put_line.ensures))

pub loop-k-preserved : goal.loop-k-preserved
loop-k-preserved g c =
    let line = c.bytes-in-loop-k.ensures.value ∙ c.set_line.ensures ∙ ap (set_line c.entry-entry.result.now.elements) c.bytes.ensures in
    one_more_printed set_lines_are c.entry-entry.result.now (sym c.entry-entry.ensures.value) c.loop-k.invariant (rw line at c.in_ok-put_line.ensures)
