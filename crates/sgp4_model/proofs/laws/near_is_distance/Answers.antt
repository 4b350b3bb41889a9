use Rattle.sgp4_model.proofs.Near.{near_is_distance}
use Rattle.sgp4_model.proofs.laws.near_is_distance.Goals as goal

pub returns : goal.returns
returns c = near_is_distance
