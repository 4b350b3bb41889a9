use Rattle.std.proofs.Common.{ap, sym, ◌∙◌}
use Rattle.elements.specs.Window.{WindowRecord}
use Rattle.pass_text.specs.DayLayout.{span_line}
use Rattle.plan_text.specs.RowLines.{lit_letter}
use Rattle.run_ends.proofs.PrintedLemmas.{failed, next_cut, one_more_printed}
use Rattle.plan_command.proofs.NumberedLemmas.{nothing_next}
use Rattle.plan_command.proofs.PartLemmas.{span_lines_are}
use Rattle.plan_command.proofs.light.print_spans.Goals as goal
use Rattle.plan_command.proofs.light.print_spans.Goals.{in-Some+in_ok-put_line, in_default}

pub returns-in_err-put_line : goal.returns-in_err-put_line
returns-in_err-put_line g c =
    let line =
    c.bytes.ensures.value ∙ c.lit_span_line.ensures
    ∙ ap (λ (window : WindowRecord). span_line (lit_letter c.in-Some.span.mark) window.start c.in-Some.span) c.window-window.ensures.value in
    failed _ c.from_residual.ensures.0
    (next_cut (span_lines_are lit_letter c.args.plan.now.setting.window.start) c.in-Some.span (sym c.span.ensures ∙ c.in-Some.is) c.loop-k.invariant
    (rw line at c.in_err-put_line.ensures))

pub loop-k-preserved : goal.loop-k-preserved
loop-k-preserved g c = elim c.match-span.branch [
  | in-Some+in_ok-put_line w ↦
      let line =
      w.bytes.ensures.value ∙ w.lit_span_line.ensures
      ∙ ap (λ (window : WindowRecord). span_line (lit_letter w.in-Some.span.mark) window.start w.in-Some.span) c.window-window.ensures.value in
      rw w.out-is
      (one_more_printed (span_lines_are lit_letter c.args.plan.now.setting.window.start) w.in-Some.span (sym c.span.ensures ∙ w.in-Some.is) c.loop-k.invariant
      (rw line at w.in_ok-put_line.ensures))
  | in_default w ↦
      rw w.out-is
      (nothing_next (span_lines_are lit_letter c.args.plan.now.setting.window.start) (sym c.span.ensures ∙ w.in_default.is) c.loop-k.invariant)
]
