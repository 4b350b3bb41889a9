use Rattle.std.proofs.Common.{ap, ◌∙◌}
use Rattle.elements.specs.Window.{WindowRecord}
use Rattle.plan_command.specs.Parts.{after_text}
use Rattle.plan_text.specs.RowLines.{lit_letter, lit_line}
use Rattle.run_ends.proofs.PrintedLemmas.{printed_then}
use Rattle.span_bisect.specs.Answer.{answer_record}
use Rattle.plan_command.proofs.light.print_light.Goals as goal

pub returns : goal.returns
returns g c =
    let plan = c.args.plan.now in
    let answer = c.args.answer.now in
    let line =
    c.bytes.ensures.value ∙ c.lit_line.ensures
    ∙ ap (λ (window : WindowRecord). lit_line window.start c.args.number (answer_record answer)) c.window.ensures.value in
    printed_then g.K.Sink c.print_after.result c.args.out.now c.put_line.new.out c.print_after.new.out
    (lit_line plan.setting.window.start c.args.number (answer_record answer)) (after_text lit_letter plan answer)
    (rw line at c.in_ok-put_line.ensures) c.print_after.ensures
