use Rattle.std.proofs.Common.{◌≡◌, length}
use Rattle.plan_core.proofs.satellite.no_answers.Given as goal

-- so many answers so far
abbrev pub invariant-loop-k : goal.invariant-loop-k
invariant-loop-k l = length l.answers.items ≡ l._k
