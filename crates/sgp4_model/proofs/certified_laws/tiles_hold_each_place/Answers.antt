use Rattle.sgp4_model.proofs.CertifiedLemmas.{tiles_hold_each_place}
use Rattle.sgp4_model.proofs.certified_laws.tiles_hold_each_place.Goals as goal

pub returns : goal.returns
returns c = tiles_hold_each_place
