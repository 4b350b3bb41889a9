use Rattle.sgp4_model.proofs.KeplerExists.{kepler_root_exists}
use Rattle.sgp4_model.proofs.kepler_laws.kepler_root_exists.Goals as goal

pub returns : goal.returns
returns c = kepler_root_exists
