use Rattle.sgp4_model.proofs.Pythagoras.{squares_add_up_to_one}
use Rattle.sgp4_model.proofs.laws.squares_add_up_to_one.Goals as goal

pub returns : goal.returns
returns c = squares_add_up_to_one
