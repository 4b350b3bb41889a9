use Rattle.sgp4_init.proofs.ConstantsExist.{constants_exist}
use Rattle.sgp4_init.proofs.laws.constants_exist.Goals as goal

pub returns : goal.returns
returns c = constants_exist
