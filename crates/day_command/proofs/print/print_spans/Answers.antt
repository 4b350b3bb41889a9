use Rattle.std.proofs.Common.{ap, sym, ◌∙◌}
use Rattle.elements.specs.Window.{WindowRecord}
use Rattle.pass_text.specs.DayLayout.{day_letter, span_line}
use Rattle.run_ends.proofs.PrintedLemmas.{failed, next_cut, one_more_printed, something_there}
use Rattle.day_command.proofs.SpanLemmas.{span_lines}
use Rattle.day_command.proofs.print.print_spans.Goals as goal
use Rattle.day_command.proofs.print.print_spans.Goals.{in-Some+in_ok-put_line, in_default}

pub returns-in_err-put_line : goal.returns-in_err-put_line
returns-in_err-put_line g c =
    let there = sym c.span.ensures ∙ c.in-Some.is in
    let line =
    c.bytes.ensures.value ∙ c.span_line.ensures
    ∙ ap (λ (window : WindowRecord). span_line (day_letter c.in-Some.span.mark) window.start c.in-Some.span) c.window-window.ensures in
    failed _ c.from_residual.ensures.0
    (next_cut (span_lines c.args.day.now.window.start) c.in-Some.span there c.loop-k.invariant (rw line at c.in_err-put_line.ensures))

pub loop-k-preserved : goal.loop-k-preserved
loop-k-preserved g c = elim c.match-span.branch [
  | in-Some+in_ok-put_line w ↦
      let line =
      w.bytes.ensures.value ∙ w.span_line.ensures
      ∙ ap (λ (window : WindowRecord). span_line (day_letter w.in-Some.span.mark) window.start w.in-Some.span) c.window-window.ensures in
      rw w.out-is
      (one_more_printed (span_lines c.args.day.now.window.start) w.in-Some.span (sym c.span.ensures ∙ w.in-Some.is) c.loop-k.invariant
      (rw line at w.in_ok-put_line.ensures))
  | in_default w ↦
      absurd (something_there c.args.day.now.list c.loop-k.k (rw c.count-k-end.ensures at c.loop-k-test.true) (sym c.span.ensures ∙ w.in_default.is))
]
