use Rattle.rows_runs.proofs.SmallCases.{empty_files}
use Rattle.rows_runs.proofs.empty_files.Goals as goal

pub returns : goal.returns
returns c = empty_files
