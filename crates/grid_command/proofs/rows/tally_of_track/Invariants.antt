use Rattle.std.proofs.Common.{◌≡◌, take}
use Rattle.span_pool.specs.Pool.{list_of}
use Rattle.grid_command.specs.Tally.{tally_of_spans}
use Rattle.grid_command.proofs.rows.tally_of_track.Given as goal

-- the counts of the spans so far
abbrev pub invariant-loop-k : goal.invariant-loop-k
invariant-loop-k l = l.tally ≡ tally_of_spans (take l.k (list_of l.plan.pool l.track))
