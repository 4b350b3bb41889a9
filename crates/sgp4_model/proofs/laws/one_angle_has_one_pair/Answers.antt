use Rattle.sgp4_model.proofs.Lipschitz.{one_angle_has_one_pair}
use Rattle.sgp4_model.proofs.laws.one_angle_has_one_pair.Goals as goal

pub returns : goal.returns
returns c = one_angle_has_one_pair
