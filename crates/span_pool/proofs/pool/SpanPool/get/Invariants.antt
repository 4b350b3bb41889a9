use Rattle.std.proofs.Common.{slice_get}
use Rattle.span_pool.specs.Pool.{list_of}
use Rattle.span_pool.proofs.ReleaseLemmas.{IsReading}
use Rattle.span_pool.proofs.pool.SpanPool.get.Given as goal

abbrev pub invariant-loop-left : goal.invariant-loop-left
invariant-loop-left l = IsReading l.self-inside.slots.items l.left l.at (slice_get (list_of l.self l.track) l.k)

abbrev pub decreases-loop-left : goal.decreases-loop-left
decreases-loop-left l = l.left
