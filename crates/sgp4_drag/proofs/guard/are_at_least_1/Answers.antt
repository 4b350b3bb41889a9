use Rattle.std.proofs.Common.{arith}
use Rattle.std.proofs.lemmas.Int.{to_z-of_z}
use Rattle.sgp4_drag.proofs.GuardLemmas.{one_above, one_below}
use Rattle.sgp4_drag.proofs.guard.are_at_least_1.Goals as goal

pub returns : goal.returns
returns c = (
  λ t. one_above c.args.bounds.lo (grind (arith, to_z-of_z, t)),
  λ h. let end = one_below c.args.bounds.lo h in grind (arith, to_z-of_z, end),
)
