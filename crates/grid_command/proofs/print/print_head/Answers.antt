use Rattle.std.proofs.Common.{codes, ◌++◌}
use Rattle.plan_text.specs.GridLayout.{count_line}
use Rattle.run_ends.proofs.PrintedLemmas.{cut_first, cut_second, failed, printed_then}
use Rattle.grid_command.proofs.print.print_head.Goals as goal

pub returns-in_err-put_line : goal.returns-in_err-put_line
returns-in_err-put_line g c = failed _ c.from_residual.ensures.0 (cut_first (codes "PASSGRID 1\n") _ c.in_err-put_line.ensures)

pub returns-in_err-put_count : goal.returns-in_err-put_count
returns-in_err-put_count g c =
    failed _ c.from_residual-in_err-put_count.ensures.0
    (cut_second (codes "PASSGRID 1\n") _ c.in_ok-put_line.ensures (cut_first (count_line (codes "SATS") c.args.counts.sats) _ c.in_err-put_count.ensures))

pub returns : goal.returns
returns g c =
    let sats = count_line (codes "SATS") c.args.counts.sats in
    let refused = count_line (codes "REFUSED") c.args.counts.refused in
    let last = c.put_count-2 in
    printed_then g.K.Sink last.result c.args.out.now c.put_line.new.out last.new.out (codes "PASSGRID 1\n") (sats ++ refused)
    c.in_ok-put_line.ensures
    (printed_then g.K.Sink last.result c.put_line.new.out c.put_count.new.out last.new.out sats refused c.in_ok-put_count.ensures last.ensures)
