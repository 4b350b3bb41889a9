use Rattle.rows_runs.proofs.SmallCases.{small_causes}
use Rattle.rows_runs.proofs.small_causes.Goals as goal

pub returns : goal.returns
returns c = small_causes
