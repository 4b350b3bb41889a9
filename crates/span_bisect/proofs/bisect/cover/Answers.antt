use Rattle.span_bisect.proofs.GrownLemmas.{releases, stopped}
use Rattle.span_bisect.proofs.bisect.cover.Goals as goal

pub returns-in-Err-clause-pool : goal.returns-in-Err-clause-pool
returns-in-Err-clause-pool g c = rw c.answer_of-answer.ensures (stopped _ _ c.in-Err.stop (releases _ _ _ _ c.read_track.ensures.grown c.release.ensures.released))
