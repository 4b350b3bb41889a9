use Rattle.std.proofs.Common.{arith}
use Rattle.span_pool.proofs.ViewLemmas.{empty, empty_list, nothing_used}
use Rattle.span_pool.proofs.pool.SpanPool.with_slots.Goals as goal

pub invariant_of-result : goal.invariant_of-result
invariant_of-result c = rw c.in_ok-region.ensures.items (empty _ c.args.slots (omega (arith, c.in_ok-region.ensures.exact)) c.requires.1)

pub returns-clause-empty : goal.returns-clause-empty
returns-clause-empty c = λ head. rw c.in_ok-region.ensures.items (empty_list c.args.slots head)

pub returns-clause-used : goal.returns-clause-used
returns-clause-used c = rw c.in_ok-region.ensures.items (nothing_used c.args.slots)
