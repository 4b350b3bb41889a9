use Rattle.sgp4_model.proofs.DayExists.{day_solution_exists}
use Rattle.sgp4_model.proofs.day_laws.day_solution_exists.Goals as goal

pub returns : goal.returns
returns c = day_solution_exists
