use Rattle.sgp4_model.proofs.CertifiedLemmas.{sound_lists_extend}
use Rattle.sgp4_model.proofs.certified_laws.sound_lists_extend.Goals as goal

pub returns : goal.returns
returns g c = sound_lists_extend g.T.Tracked.track
