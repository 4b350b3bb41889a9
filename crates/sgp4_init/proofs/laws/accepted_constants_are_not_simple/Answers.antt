use Rattle.sgp4_init.proofs.FormLemmas.{accepted_constants_are_not_simple}
use Rattle.sgp4_init.proofs.laws.accepted_constants_are_not_simple.Goals as goal

pub returns : goal.returns
returns c = accepted_constants_are_not_simple
