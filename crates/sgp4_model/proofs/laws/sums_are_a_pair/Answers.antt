use Rattle.sgp4_model.proofs.OwnPair.{own_pair_holds, own_quarters, own_reduced}
use Rattle.sgp4_model.proofs.laws.sums_are_a_pair.Goals as goal

pub returns : goal.returns
returns c pi x h = (own_quarters pi x, (own_reduced h x, own_pair_holds h x))
