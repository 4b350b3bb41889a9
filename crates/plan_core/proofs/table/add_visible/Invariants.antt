use Rattle.std.proofs.Common.{◌≡◌, ◌++◌, take}
use Rattle.span_pool.specs.Pool.{list_of}
use Rattle.plan_core.specs.Contacts.{visible_in}
use Rattle.plan_core.proofs.table.add_visible.Given as goal

-- the visible spans so far
abbrev pub invariant-loop-k : goal.invariant-loop-k
invariant-loop-k l = l.contacts.items ≡ l.initial.contacts.items ++ visible_in l.number (take l.k (list_of l.plan.pool l.track))
