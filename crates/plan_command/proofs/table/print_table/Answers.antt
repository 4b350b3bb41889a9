use Rattle.std.proofs.Common.{ap, length, ◌∙◌}
use Rattle.plan_text.specs.TableLines.{pass_lines, table_line}
use Rattle.run_ends.proofs.PrintedLemmas.{printed_then}
use Rattle.plan_command.proofs.table.print_table.Goals as goal

pub returns : goal.returns
returns g c =
    let line = c.bytes.ensures.value ∙ c.table_line.ensures ∙ ap (table_line c.args.index) c.len.ensures in
    printed_then g.K.Sink c.print_passes.result c.args.out.now c.put_line.new.out c.print_passes.new.out
    (table_line c.args.index (length c.args.table.now)) (pass_lines c.args.window.start c.args.table.now)
    (rw line at c.in_ok-put_line.ensures) c.print_passes.ensures
