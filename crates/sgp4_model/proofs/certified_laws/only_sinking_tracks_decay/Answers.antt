use Rattle.sgp4_model.proofs.CertifiedLemmas.{only_sinking_tracks_decay}
use Rattle.sgp4_model.proofs.certified_laws.only_sinking_tracks_decay.Goals as goal

pub returns : goal.returns
returns g c = only_sinking_tracks_decay g.T.Tracked.track
