use Rattle.std.proofs.Common.{codes, ◌++◌}
use Rattle.plan_text.specs.GridLayout.{spans_line}
use Rattle.run_ends.proofs.PrintedLemmas.{cut_first, cut_second, failed, printed_then}
use Rattle.grid_command.proofs.print.print_ticks.Goals as goal

pub returns-in_err-put_spans : goal.returns-in_err-put_spans
returns-in_err-put_spans g c =
    failed _ c.from_residual.ensures.0
    (cut_first (spans_line (codes "VISIBLE") c.args.counts.visible_spans c.args.counts.visible_ticks) _ c.in_err-put_spans.ensures)

pub returns-in_err-put_spans-2 : goal.returns-in_err-put_spans-2
returns-in_err-put_spans-2 g c =
    let s = c.args.counts in
    failed _ c.from_residual-in_err-put_spans-2.ensures.0
    (cut_second (spans_line (codes "VISIBLE") s.visible_spans s.visible_ticks) _ c.in_ok-put_spans.ensures
    (cut_first (spans_line (codes "HIDDEN") s.hidden_spans s.hidden_ticks) _ c.in_err-put_spans-2.ensures))

pub returns : goal.returns
returns g c =
    let s = c.args.counts in
    let visible = spans_line (codes "VISIBLE") s.visible_spans s.visible_ticks in
    let hidden = spans_line (codes "HIDDEN") s.hidden_spans s.hidden_ticks in
    let undecided = spans_line (codes "UNDECIDED") s.undecided_spans s.undecided_ticks in
    let last = c.put_spans-3 in
    printed_then g.K.Sink last.result c.args.out.now c.put_spans.new.out last.new.out visible (hidden ++ undecided)
    c.in_ok-put_spans.ensures
    (printed_then g.K.Sink last.result c.put_spans.new.out c.put_spans-2.new.out last.new.out hidden undecided c.in_ok-put_spans-2.ensures last.ensures)
