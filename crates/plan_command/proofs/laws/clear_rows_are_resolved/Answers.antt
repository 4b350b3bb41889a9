use Rattle.plan_command.proofs.LawLemmas.{clear_rows_are_resolved}
use Rattle.plan_command.proofs.laws.clear_rows_are_resolved.Goals as goal

pub returns : goal.returns
returns c = clear_rows_are_resolved
