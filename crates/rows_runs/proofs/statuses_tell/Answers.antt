use Rattle.rows_runs.proofs.EndLaws.{statuses_tell}
use Rattle.rows_runs.proofs.statuses_tell.Goals as goal

pub returns : goal.returns
returns c = statuses_tell
