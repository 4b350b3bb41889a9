use Rattle.std.proofs.Common.{◌≤◌, sum}
use Rattle.contact_alloc.specs.Flow.{IsSearch}
use Rattle.contact_alloc.proofs.search.sweep_parts.Given as goal

abbrev pub invariant-loop-half : goal.invariant-loop-half
invariant-loop-half l = record {
  search : IsSearch l.arcs l.flows l.tops l.levels l.steps l.turns;
  not_lower : sum l.initial.levels ≤ sum l.levels;
}
