use Rattle.std.proofs.Common.{codes, ◌++◌}
use Rattle.pass_text.specs.ShowLayout.{set_lines}
use Rattle.run_ends.proofs.PrintedLemmas.{cut_first, cut_second, failed, printed_then}
use Rattle.show_command.proofs.print.print_show.Goals as goal

pub returns-in_err-put_line : goal.returns-in_err-put_line
returns-in_err-put_line g c = failed _ c.from_residual.ensures.0 (cut_first (codes "PASSSHOW 1\n") _ c.in_err-put_line.ensures)

pub returns-in_err-print_sets : goal.returns-in_err-print_sets
returns-in_err-print_sets g c =
    failed _ c.from_residual-in_err-print_sets.ensures.0
    (cut_second (codes "PASSSHOW 1\n") _ c.in_ok-put_line.ensures (cut_first (set_lines c.args.catalogue.now) _ c.in_err-print_sets.ensures))

pub returns : goal.returns
returns g c =
    printed_then g.K.Sink c.put_line-2.result c.args.out.now c.put_line.new.out c.put_line-2.new.out (codes "PASSSHOW 1\n") (set_lines c.args.catalogue.now ++ codes "END\n")
    c.in_ok-put_line.ensures
    (printed_then g.K.Sink c.put_line-2.result c.put_line.new.out c.print_sets.new.out c.put_line-2.new.out (set_lines c.args.catalogue.now) (codes "END\n")
    c.in_ok-print_sets.ensures c.put_line-2.ensures)
