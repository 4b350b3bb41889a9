use Rattle.sgp4_model.proofs.Lipschitz.{tie_sums}
use Rattle.sgp4_model.proofs.laws.tied_sums_are_close.Goals as goal

pub returns : goal.returns
returns c pi x j k h p q = let near = tie_sums pi x j k h p q in (near.sine, near.cosine)
