use Rattle.std.proofs.Common.{arith}
use Rattle.std.proofs.lemmas.Int.{to_z-of_z}
use Rattle.sgp4_periodic.proofs.GuardLemmas.{distant_above, distant_below}
use Rattle.sgp4_periodic.proofs.guard.are_distant.Goals as goal

pub returns : goal.returns
returns c = (
  λ t. distant_above c.args.bounds.lo (grind (arith, to_z-of_z, t)),
  λ h. let end = distant_below c.args.bounds.lo h in grind (arith, to_z-of_z, end),
)
