use Rattle.sgp4_motion.proofs.FateLemmas.{near_earth_sets_are_full}
use Rattle.sgp4_motion.proofs.laws.near_earth_sets_are_full.Goals as goal

pub returns : goal.returns
returns c = near_earth_sets_are_full
