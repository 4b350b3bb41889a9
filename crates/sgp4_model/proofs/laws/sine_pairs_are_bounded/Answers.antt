use Rattle.sgp4_model.proofs.Pythagoras.{sine_pairs_are_bounded}
use Rattle.sgp4_model.proofs.laws.sine_pairs_are_bounded.Goals as goal

pub returns : goal.returns
returns c = sine_pairs_are_bounded
