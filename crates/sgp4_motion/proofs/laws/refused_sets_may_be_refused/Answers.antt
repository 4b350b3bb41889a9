use Rattle.sgp4_motion.proofs.FateLemmas.{refused_sets_may_be_refused}
use Rattle.sgp4_motion.proofs.laws.refused_sets_may_be_refused.Goals as goal

pub returns : goal.returns
returns c = refused_sets_may_be_refused
