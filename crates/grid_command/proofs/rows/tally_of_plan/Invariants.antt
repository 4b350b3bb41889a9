use Rattle.std.proofs.Common.{◌≡◌, take}
use Rattle.plan_core.specs.State.{plan_record}
use Rattle.grid_command.proofs.FitLemmas.{tally_of_satellites}
use Rattle.grid_command.proofs.rows.tally_of_plan.Given as goal

-- the counts of the satellites so far
abbrev pub invariant-loop-sat : goal.invariant-loop-sat
invariant-loop-sat l = l.tally ≡ tally_of_satellites (take l.sat (plan_record l.plan).satellites)
