use Rattle.rows_runs.proofs.ProductLaws.{plans_are_certified}
use Rattle.rows_runs.proofs.plans_are_certified.Goals as goal

pub returns : goal.returns
returns c = plans_are_certified
