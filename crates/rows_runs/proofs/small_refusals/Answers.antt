use Rattle.rows_runs.proofs.SmallCases.{small_refusals}
use Rattle.rows_runs.proofs.small_refusals.Goals as goal

pub returns : goal.returns
returns c = small_refusals
