use Rattle.std.proofs.Common.{◌≡◌, map, take, All}
use Rattle.plan_core.specs.Filled.{AreFilled}
use Rattle.plan_core.specs.Readers.{IsReady}
use Rattle.plan_core.specs.State.{SatState, entry_of}
use Rattle.plan_core.proofs.fill.fill_all.Given as goal

-- the satellites so far have their rows
abbrev pub invariant-loop-k : goal.invariant-loop-k
invariant-loop-k l = record {
  filled : AreFilled l.setting l.initial.pool l.pool (take l.k l.satellites.items);
  ready : All (IsReady l.setting) l.satellites.items;
  entries : map entry_of l.satellites.items ≡ map entry_of l.initial.satellites.items;
  fates : map (λ (s : SatState). s.fate) l.satellites.items ≡ map (λ (s : SatState). s.fate) l.initial.satellites.items;
}
