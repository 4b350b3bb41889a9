use Rattle.sgp4_model.proofs.RootExists.{cube_root_exists}
use Rattle.sgp4_model.proofs.root_laws.cube_root_exists.Goals as goal

pub returns : goal.returns
returns c = cube_root_exists
