use Rattle.plan_command.proofs.LawLemmas.{light_spans_are_true}
use Rattle.plan_command.proofs.laws.light_spans_are_true.Goals as goal

pub returns : goal.returns
returns c = light_spans_are_true
