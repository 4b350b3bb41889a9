use Rattle.sgp4_model.proofs.RootLipschitz.{square_roots_are_lipschitz}
use Rattle.sgp4_model.proofs.root_laws.square_roots_are_lipschitz.Goals as goal

pub returns : goal.returns
returns c = square_roots_are_lipschitz
