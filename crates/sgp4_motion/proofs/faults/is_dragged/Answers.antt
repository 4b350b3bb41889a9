use Rattle.std.proofs.Common.{arith}
use Rattle.sgp4_motion.proofs.FaultLemmas.{denies, not_above, shows, size_above}
use Rattle.sgp4_motion.proofs.faults.is_dragged.Goals as goal

pub returns-then-is_below : goal.returns-then-is_below
returns-then-is_below c =
    let above = rw c.of_scaled-limit.ensures.value at (shows c.is_below.ensures c.if-is_below.true) in
    (λ _. size_above above, λ _. grind (arith, c.if-is_below.true))

pub returns-else-is_below : goal.returns-else-is_below
returns-else-is_below c =
    not_above (rw c.of_scaled-below.ensures.value at c.is_below-else-is_below.ensures) (rw c.of_scaled-limit.ensures.value at (denies c.is_below.ensures c.if-is_below.false))
