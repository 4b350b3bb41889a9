use Rattle.plan_core.specs.State.{plan_record}
use Rattle.plan_command.proofs.TableLemmas.{AreFirst}
use Rattle.plan_command.proofs.tables.tables_of.Given as goal

-- the timetables so far
abbrev pub invariant-loop-k : goal.invariant-loop-k
invariant-loop-k l = AreFirst (plan_record l.plan) l.tables.items l.k
