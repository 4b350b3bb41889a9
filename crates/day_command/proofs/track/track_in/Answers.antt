use Rattle.std.proofs.Common.{ap}
use Rattle.elements.specs.Window.{WindowRecord}
use Rattle.span_bisect.specs.Answer.{answer_record, answer_spans}
use Rattle.day_command.proofs.InsideLemmas.{result_is_inside}
use Rattle.day_command.proofs.track.track_in.Goals as goal

pub of-requires-clause-inside : goal.of-requires-clause-inside
of-requires-clause-inside c =
    result_is_inside c.args.window _ _ _ _ (answer_record c.cover-answer.result.answer) (answer_spans c.cover-answer.new.pool c.cover-answer.result.answer)
    (ap (λ (w : WindowRecord). w.ticks) c.make-judge.ensures.window) (λ place s. s) c.cover-answer.ensures.certified
