use Rattle.sgp4_model.proofs.PositionExists.{position_exists}
use Rattle.sgp4_model.proofs.solution_laws.position_exists.Goals as goal

pub returns : goal.returns
returns c = position_exists
