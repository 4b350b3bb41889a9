use Rattle.std.proofs.Common.{arith, ◌≤◌}
use Rattle.std.specs.Vec.{vec_capacity}
use Rattle.span_pool.proofs.HeldLemmas.{release_keeps}
use Rattle.span_pool.proofs.ListLemmas.{head_inside}
use Rattle.span_pool.proofs.ReleaseLemmas.{released}
use Rattle.span_pool.proofs.ViewLemmas.{held, gone}
use Rattle.span_pool.proofs.pool.SpanPool.release.Goals as goal

pub free_list-requires-clause-head : goal.free_list-requires-clause-head
free_list-requires-clause-head c =
    let h = held _ _ _ _ _ _ c.self.view_is c.in-Some.is c.requires in
    head_inside _ _ _ (c.self.invariant.lists c.in-Some.head (omega (arith, h.some, h.count_is)))

pub free_list-requires-clause-last : goal.free_list-requires-clause-last
free_list-requires-clause-last c =
    let h = held _ _ _ _ _ _ c.self.view_is c.in-Some.is c.requires in
    (c.self.invariant.lists c.in-Some.head (omega (arith, h.some, h.count_is))).inside

pub invariant_of-self : goal.invariant_of-self
invariant_of-self c =
    let h = held _ _ _ _ _ _ c.self.view_is c.in-Some.is c.requires in
    (released _ _ _ _ _ _ _ _ _ c.self.invariant (omega (arith, c.free_list.ensures.capacity)) h.count_is h.some c.free_list.ensures.freed).pool

pub returns-in-Some : goal.returns-in-Some
returns-in-Some c =
    let h = held _ _ _ _ _ _ c.self.view_is c.in-Some.is c.requires in
    let more : vec_capacity c.self.inside.slots ≤ vec_capacity c.free_list.new.slots = omega (arith, c.free_list.ensures.capacity) in
    let less = released _ _ _ _ _ _ _ _ _ c.self.invariant more h.count_is h.some c.free_list.ensures.freed in
    let is = gone _ _ _ _ _ _ _ _ c.args.self.now c.args.track c.self.invariant less c.self.view_is c.in-Some.is in
    record { released = is; others = release_keeps _ _ _ is }
