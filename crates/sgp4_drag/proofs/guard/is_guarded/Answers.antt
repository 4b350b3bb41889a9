use Rattle.std.proofs.lemmas.Int.{to_z-of_z}
use Rattle.std.proofs.Common.{arith}
use Rattle.sgp4_drag.proofs.GuardLemmas.{guard_of_ends, ends_of_guard}
use Rattle.sgp4_drag.proofs.guard.is_guarded.Goals as goal

pub returns-then-bounds-geminus281474976710 : goal.returns-then-bounds-geminus281474976710
returns-then-bounds-geminus281474976710 c =
    let low = c.if-bounds-geminus281474976710.true in (
      λ t. guard_of_ends c.args.bounds (grind (arith, to_z-of_z, low)) (grind (arith, to_z-of_z, t)),
      λ h. let ends = ends_of_guard c.args.bounds h in grind (arith, to_z-of_z, ends),
    )

pub returns-else-bounds-geminus281474976710 : goal.returns-else-bounds-geminus281474976710
returns-else-bounds-geminus281474976710 c =
    let low = c.if-bounds-geminus281474976710.false in (
      λ t. absurd (grind (arith, to_z-of_z, low, t)),
      λ h. let ends = ends_of_guard c.args.bounds h in grind (arith, to_z-of_z, ends),
    )
