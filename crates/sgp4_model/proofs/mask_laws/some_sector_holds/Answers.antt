use Rattle.sgp4_model.proofs.RoundLemmas.{some_sector_holds}
use Rattle.sgp4_model.proofs.mask_laws.some_sector_holds.Goals as goal

pub returns : goal.returns
returns c = some_sector_holds
