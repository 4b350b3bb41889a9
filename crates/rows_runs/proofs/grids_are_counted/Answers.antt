use Rattle.rows_runs.proofs.ProductLaws.{grids_are_counted}
use Rattle.rows_runs.proofs.grids_are_counted.Goals as goal

pub returns : goal.returns
returns c = grids_are_counted
