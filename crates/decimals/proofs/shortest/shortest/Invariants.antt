use Rattle.std.proofs.Common.{◌≡◌}
use Rattle.decimals.specs.Normal.{shortest}
use Rattle.decimals.proofs.shortest.shortest.Given as goal

abbrev pub invariant-loop-left : goal.invariant-loop-left
invariant-loop-left l = shortest l.rest l.left ≡ shortest l.fn.size l.fn.places

abbrev pub decreases-loop-left : goal.decreases-loop-left
decreases-loop-left l = l.left
