use Rattle.sgp4_model.proofs.SectorLemmas.{none_is_both}
use Rattle.sgp4_model.proofs.mask_laws.none_is_both.Goals as goal

pub returns : goal.returns
returns c = none_is_both
