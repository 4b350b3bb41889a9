use Rattle.sgp4_model.proofs.SolutionExists.{lit_solution_exists}
use Rattle.sgp4_model.proofs.solution_laws.lit_solution_exists.Goals as goal

pub returns : goal.returns
returns c = lit_solution_exists
