use Rattle.sgp4_model.proofs.RootExists.{square_root_exists}
use Rattle.sgp4_model.proofs.root_laws.square_root_exists.Goals as goal

pub returns : goal.returns
returns c = square_root_exists
