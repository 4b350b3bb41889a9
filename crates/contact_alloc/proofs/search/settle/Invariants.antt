use Rattle.std.proofs.Common.{◌≤◌, sum}
use Rattle.contact_alloc.specs.Flow.{IsSearch}
use Rattle.contact_alloc.proofs.search.settle.Given as goal

abbrev pub invariant-loop-again : goal.invariant-loop-again
invariant-loop-again l = record {
  search : IsSearch l.arcs l.flows l.tops l.levels l.steps l.turns;
  not_lower : sum l.initial.levels ≤ sum l.levels;
}
