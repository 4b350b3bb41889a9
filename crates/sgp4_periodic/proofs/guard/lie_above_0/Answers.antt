use Rattle.std.proofs.Common.{arith}
use Rattle.std.proofs.lemmas.Int.{to_z-of_z}
use Rattle.sgp4_periodic.proofs.GuardLemmas.{above_0, not_below_1}
use Rattle.sgp4_periodic.proofs.guard.lie_above_0.Goals as goal

pub returns : goal.returns
returns c = (
  λ t. above_0 c.args.bounds.lo (grind (arith, to_z-of_z, t)),
  λ h. let end = not_below_1 c.args.bounds.lo h in grind (arith, to_z-of_z, end),
)
