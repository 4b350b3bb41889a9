use Rattle.sgp4_model.proofs.OwnPair.{sine_and_cosine_exist}
use Rattle.sgp4_model.proofs.laws.sine_and_cosine_exist.Goals as goal

pub returns : goal.returns
returns c = sine_and_cosine_exist
