use Rattle.std.proofs.Common.{arith, ap, ◌∙◌, Some, refl}
use Rattle.std.proofs.lemmas.List.{get_or_read_under}
use Rattle.span_pool.specs.Slots.{no_slot, span_of}
use Rattle.span_pool.proofs.ReleaseLemmas.{reading_starts, reading_inside, reading_goes_on, reading_ends}
use Rattle.span_pool.proofs.ViewLemmas.{held, listed}
use Rattle.span_pool.proofs.pool.SpanPool.get.Goals as goal

pub loop-left-init : goal.loop-left-init
loop-left-init c =
    let h = held _ _ _ _ _ _ c.self.view_is c.in_ok-at.was c.requires in
    let list = listed _ _ _ _ _ _ c.self.view_is c.in_ok-at.was c.requires in
    rw list (reading_starts _ _ _ _ _ _ _ c.args.k c.self.invariant h.count_is c.if-k-track.false)

pub index-requires : goal.index-requires
index-requires c = omega (arith, reading_inside _ _ _ _ c.loop-left.invariant, c.self.inside.slots.ok)

pub loop-left-preserved : goal.loop-left-preserved
loop-left-preserved c =
    let read = get_or_read_under _ _ _ _ no_slot c.index.ensures (reading_inside _ _ _ _ c.loop-left.invariant) refl in
    rw read (reading_goes_on _ _ _ _ c.loop-left-test.true c.loop-left.invariant)

pub index-slot-requires : goal.index-slot-requires
index-slot-requires c = omega (arith, reading_inside _ _ _ _ c.loop-left.invariant, c.self.inside.slots.ok)

pub returns : goal.returns
returns c =
    let read = get_or_read_under _ _ _ _ no_slot c.index-slot.ensures (reading_inside _ _ _ _ c.loop-left.invariant) refl in
    ap (λ s. Some (span_of s)) read ∙ reading_ends _ _ _ _ (omega (arith, c.loop-left-test.false)) c.loop-left.invariant
