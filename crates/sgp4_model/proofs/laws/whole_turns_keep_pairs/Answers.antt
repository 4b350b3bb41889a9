use Rattle.sgp4_model.proofs.Turns.{keep_pairs}
use Rattle.sgp4_model.proofs.laws.whole_turns_keep_pairs.Goals as goal

pub returns : goal.returns
returns c = keep_pairs
