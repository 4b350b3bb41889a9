use Rattle.sgp4_model.proofs.SolutionExists.{solution_exists}
use Rattle.sgp4_model.proofs.solution_laws.solution_exists.Goals as goal

pub returns : goal.returns
returns c = solution_exists
