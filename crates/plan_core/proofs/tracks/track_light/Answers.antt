use Rattle.plan_core.proofs.KeptLemmas.{made_keeps}
use Rattle.plan_core.proofs.tracks.track_light.Goals as goal

pub returns-clause-kept : goal.returns-clause-kept
returns-clause-kept c = made_keeps _ _ c.args.pool.now c.cover_light.new.pool c.cover_light.result.answer c.cover_light.ensures
