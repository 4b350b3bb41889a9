use Rattle.sgp4_model.proofs.SectorLemmas.{some_sector_holds_between}
use Rattle.sgp4_model.proofs.mask_laws.some_sector_holds_between.Goals as goal

pub returns : goal.returns
returns c = some_sector_holds_between
