use Rattle.sgp4_model.proofs.Mirror.{reflection_keeps_pairs}
use Rattle.sgp4_model.proofs.laws.reflection_keeps_pairs.Goals as goal

pub returns : goal.returns
returns c = reflection_keeps_pairs
