use Rattle.sgp4_model.proofs.Lipschitz.{sine_pairs_are_lipschitz}
use Rattle.sgp4_model.proofs.laws.sine_pairs_are_lipschitz.Goals as goal

pub returns : goal.returns
returns c = sine_pairs_are_lipschitz
