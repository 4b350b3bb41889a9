use Rattle.rows_model.proofs.HorizonCases.{horizon_rows}
use Rattle.rows_model.proofs.sides_of_the_horizon.Goals as goal

pub returns : goal.returns
returns c = horizon_rows
