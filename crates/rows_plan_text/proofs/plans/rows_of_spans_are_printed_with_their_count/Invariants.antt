use Rattle.span_pool.specs.Pool.{Holds}
use Rattle.rows_plan_text.proofs.plans.rows_of_spans_are_printed_with_their_count.Given as goal

-- the pool holds the track
abbrev pub invariant-loop-mark : goal.invariant-loop-mark
invariant-loop-mark g l = Holds l.pool l.track
