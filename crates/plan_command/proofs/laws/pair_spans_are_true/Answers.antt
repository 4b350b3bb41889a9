use Rattle.plan_command.proofs.LawLemmas.{pair_spans_are_true}
use Rattle.plan_command.proofs.laws.pair_spans_are_true.Goals as goal

pub returns : goal.returns
returns c = pair_spans_are_true
