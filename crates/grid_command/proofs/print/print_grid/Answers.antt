use Rattle.std.proofs.Common.{codes, ◌++◌, subst}
use Rattle.grid_command.specs.Printed.{head_text, others_text, ticks_text}
use Rattle.grid_command.proofs.TextLemmas.{layout_is}
use Rattle.plan_text.specs.GridLayout.{count_line}
use Rattle.run_ends.proofs.PrintedLemmas.{cut_first, cut_second, failed, printed_then}
use Rattle.run_ends.specs.Printed.{IsCutOff, IsPrinted}
use Rattle.grid_command.proofs.print.print_grid.Goals as goal

pub returns-in_err-print_head : goal.returns-in_err-print_head
returns-in_err-print_head g c =
    failed _ c.from_residual.ensures.0
    (subst (IsCutOff g.K.Sink c.args.out.now c.print_head.new.out) (layout_is c.args.counts) (cut_first (head_text c.args.counts) _ c.in_err-print_head.ensures))

pub returns-in_err-print_ticks : goal.returns-in_err-print_ticks
returns-in_err-print_ticks g c =
    let s = c.args.counts in
    failed _ c.from_residual-in_err-print_ticks.ensures.0
    (subst (IsCutOff g.K.Sink c.args.out.now c.print_ticks.new.out) (layout_is s)
    (cut_second (head_text s) _ c.in_ok-print_head.ensures (cut_first (ticks_text s) _ c.in_err-print_ticks.ensures)))

pub returns-in_err-print_others : goal.returns-in_err-print_others
returns-in_err-print_others g c =
    let s = c.args.counts in
    failed _ c.from_residual-in_err-print_others.ensures.0
    (subst (IsCutOff g.K.Sink c.args.out.now c.print_others.new.out) (layout_is s)
    (cut_second (head_text s) _ c.in_ok-print_head.ensures
    (cut_second (ticks_text s) _ c.in_ok-print_ticks.ensures (cut_first (others_text s) _ c.in_err-print_others.ensures))))

pub returns-in_err-put_count : goal.returns-in_err-put_count
returns-in_err-put_count g c =
    let s = c.args.counts in
    failed _ c.from_residual-in_err-put_count.ensures.0
    (subst (IsCutOff g.K.Sink c.args.out.now c.put_count.new.out) (layout_is s)
    (cut_second (head_text s) _ c.in_ok-print_head.ensures
    (cut_second (ticks_text s) _ c.in_ok-print_ticks.ensures
    (cut_second (others_text s) _ c.in_ok-print_others.ensures (cut_first (count_line (codes "CELLS") s.cells) (codes "END\n") c.in_err-put_count.ensures)))))

pub returns : goal.returns
returns g c =
    let s = c.args.counts in
    let cells = count_line (codes "CELLS") s.cells in
    let last = c.put_line in
    subst (IsPrinted g.K.Sink last.result c.args.out.now last.new.out) (layout_is s)
    (printed_then g.K.Sink last.result c.args.out.now c.print_head.new.out last.new.out (head_text s) (ticks_text s ++ (others_text s ++ (cells ++ codes "END\n")))
    c.in_ok-print_head.ensures
    (printed_then g.K.Sink last.result c.print_head.new.out c.print_ticks.new.out last.new.out (ticks_text s) (others_text s ++ (cells ++ codes "END\n"))
    c.in_ok-print_ticks.ensures
    (printed_then g.K.Sink last.result c.print_ticks.new.out c.print_others.new.out last.new.out (others_text s) (cells ++ codes "END\n")
    c.in_ok-print_others.ensures
    (printed_then g.K.Sink last.result c.print_others.new.out c.put_count.new.out last.new.out cells (codes "END\n") c.in_ok-put_count.ensures last.ensures))))
