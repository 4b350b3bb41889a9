use Rattle.plan_command.proofs.LawLemmas.{rows_are_certified}
use Rattle.plan_command.proofs.laws.rows_are_certified.Goals as goal

pub returns : goal.returns
returns c = rows_are_certified
