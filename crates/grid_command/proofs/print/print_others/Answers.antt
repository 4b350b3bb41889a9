use Rattle.std.proofs.Common.{codes, ◌++◌}
use Rattle.plan_text.specs.GridLayout.{count_line}
use Rattle.run_ends.proofs.PrintedLemmas.{cut_first, cut_second, failed, printed_then}
use Rattle.grid_command.proofs.print.print_others.Goals as goal

pub returns-in_err-put_count : goal.returns-in_err-put_count
returns-in_err-put_count g c =
    failed _ c.from_residual.ensures.0 (cut_first (count_line (codes "UNRESOLVED") c.args.counts.unresolved) _ c.in_err-put_count.ensures)

pub returns-in_err-put_count-2 : goal.returns-in_err-put_count-2
returns-in_err-put_count-2 g c =
    failed _ c.from_residual-in_err-put_count-2.ensures.0
    (cut_second (count_line (codes "UNRESOLVED") c.args.counts.unresolved) _ c.in_ok-put_count.ensures
    (cut_first (count_line (codes "FULL") c.args.counts.full) _ c.in_err-put_count-2.ensures))

pub returns : goal.returns
returns g c =
    let unresolved = count_line (codes "UNRESOLVED") c.args.counts.unresolved in
    let full = count_line (codes "FULL") c.args.counts.full in
    let decays = count_line (codes "DECAYS") c.args.counts.decays in
    let last = c.put_count-3 in
    printed_then g.K.Sink last.result c.args.out.now c.put_count.new.out last.new.out unresolved (full ++ decays)
    c.in_ok-put_count.ensures
    (printed_then g.K.Sink last.result c.put_count.new.out c.put_count-2.new.out last.new.out full decays c.in_ok-put_count-2.ensures last.ensures)
