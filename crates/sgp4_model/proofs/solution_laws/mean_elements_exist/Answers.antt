use Rattle.sgp4_model.proofs.MeanExists.{mean_elements_exist}
use Rattle.sgp4_model.proofs.solution_laws.mean_elements_exist.Goals as goal

pub returns : goal.returns
returns c = mean_elements_exist
