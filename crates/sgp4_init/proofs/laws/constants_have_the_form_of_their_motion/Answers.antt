use Rattle.sgp4_init.proofs.FormLemmas.{constants_have_the_form_of_their_motion}
use Rattle.sgp4_init.proofs.laws.constants_have_the_form_of_their_motion.Goals as goal

pub returns : goal.returns
returns c = constants_have_the_form_of_their_motion
