use Rattle.rows_runs.proofs.SmallCases.{small_resolved}
use Rattle.rows_runs.proofs.small_resolved.Goals as goal

pub returns : goal.returns
returns c = small_resolved
