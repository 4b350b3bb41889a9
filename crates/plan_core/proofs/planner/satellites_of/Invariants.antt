use Rattle.std.proofs.Common.{◌≡◌, map, take, All}
use Rattle.plan_core.specs.Readers.{IsReady}
use Rattle.plan_core.specs.State.{entry_of}
use Rattle.plan_core.proofs.planner.satellites_of.Given as goal

-- the satellites so far
abbrev pub invariant-loop-k : goal.invariant-loop-k
invariant-loop-k l = record {
  entries : map entry_of l.satellites.items ≡ take l.k l.catalogue;
  ready : All (IsReady l.setting) l.satellites.items;
}
