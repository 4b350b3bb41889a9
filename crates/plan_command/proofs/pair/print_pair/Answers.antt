use Rattle.std.proofs.Common.{ap, ◌∙◌}
use Rattle.elements.specs.Window.{WindowRecord}
use Rattle.plan_command.specs.Parts.{after_text}
use Rattle.plan_text.specs.RowLines.{pair_letter, pair_line}
use Rattle.run_ends.proofs.PrintedLemmas.{printed_then}
use Rattle.span_bisect.specs.Answer.{answer_record}
use Rattle.plan_command.proofs.pair.print_pair.Goals as goal

pub returns : goal.returns
returns g c =
    let plan = c.args.plan.now in
    let answer = c.args.answer.now in
    let line =
    c.bytes.ensures.value ∙ c.pair_line.ensures
    ∙ ap (λ (window : WindowRecord). pair_line window.start c.args.number c.args.index (answer_record answer)) c.window.ensures.value in
    printed_then g.K.Sink c.print_after.result c.args.out.now c.put_line.new.out c.print_after.new.out
    (pair_line plan.setting.window.start c.args.number c.args.index (answer_record answer)) (after_text pair_letter plan answer)
    (rw line at c.in_ok-put_line.ensures) c.print_after.ensures
