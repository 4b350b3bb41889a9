use Rattle.sgp4_model.proofs.PairSlopes.{sine_pairs_follow_their_slope}
use Rattle.sgp4_model.proofs.laws.sine_pairs_follow_their_slope.Goals as goal

pub returns : goal.returns
returns c = sine_pairs_follow_their_slope
