use Rattle.std.proofs.Common.{◌≡◌, take}
use Rattle.plan_core.specs.State.{plan_record}
use Rattle.grid_command.proofs.TickLemmas.{refused_among}
use Rattle.grid_command.proofs.counts.refused_of.Given as goal

-- those among the satellites so far
abbrev pub invariant-loop-sat : goal.invariant-loop-sat
invariant-loop-sat l = l.count ≡ refused_among (take l.sat (plan_record l.plan).satellites)
