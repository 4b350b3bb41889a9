use Rattle.sgp4_motion.proofs.FateLemmas.{accepted_sets_are_near_a_limit}
use Rattle.sgp4_motion.proofs.laws.accepted_sets_are_near_a_limit.Goals as goal

pub returns : goal.returns
returns c = accepted_sets_are_near_a_limit
