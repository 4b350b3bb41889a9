use Rattle.sgp4_init.proofs.FormLemmas.{constants_are_of_one_form}
use Rattle.sgp4_init.proofs.laws.constants_are_of_one_form.Goals as goal

pub returns : goal.returns
returns c = constants_are_of_one_form
