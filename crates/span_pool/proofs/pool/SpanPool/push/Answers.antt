use Rattle.std.proofs.Common.{arith, ◌<◌, ◌≤◌, ◌++◌, ◌∷◌, [], ap, sym, refl}
use Rattle.std.specs.Vec.{vec_capacity}
use Rattle.span_pool.specs.Slots.{slot_at}
use Rattle.span_pool.proofs.HeldLemmas.{push_holds, push_keeps}
use Rattle.span_pool.proofs.ListLemmas.{free_counts_none, head_inside}
use Rattle.span_pool.proofs.PushLemmas.{taken_is_free, first_stays, begun, linked}
use Rattle.span_pool.proofs.ViewLemmas.{held, listed, begins, goes_on, track_fits, pushed, nothing_there}
use Rattle.span_pool.proofs.pool.SpanPool.push.Goals as goal
use Rattle.span_pool.proofs.pool.SpanPool.push.Goals.{in-None, in-Some}

pub begin_list-requires : goal.begin_list-requires
begin_list-requires c =
    (taken_is_free _ _ _ _ _ _ _ _ _ c.self.invariant (omega (arith, c.if-self.false, c.self.invariant.made, c.self.invariant.fits)) c.take_slot-at.ensures.taken).inside

pub link_slot-requires-clause-head : goal.link_slot-requires-clause-head
link_slot-requires-clause-head c =
    let h = held _ _ _ _ _ _ c.self.view_is c.in-Some.is c.requires in
    let f = taken_is_free _ _ _ _ _ _ _ _ _ c.self.invariant (omega (arith, c.if-self.false, c.self.invariant.made, c.self.invariant.fits)) c.take_slot-at.ensures.taken in
    omega (arith, f.longer, head_inside _ _ _ (c.self.invariant.lists c.in-Some.head (omega (arith, h.some, h.count_is))))

pub link_slot-requires-clause-last : goal.link_slot-requires-clause-last
link_slot-requires-clause-last c =
    let room : c.self.inside.used < c.self.inside.limit = omega (arith, c.if-self.false, c.self.invariant.made, c.self.invariant.fits) in
    let h = held _ _ _ _ _ _ c.self.view_is c.in-Some.is c.requires in
    let some : 0 < (slot_at c.self.inside.slots.items c.in-Some.head).count = omega (arith, h.some, h.count_is) in
    let f = taken_is_free _ _ _ _ _ _ _ _ _ c.self.invariant room c.take_slot-at.ensures.taken in
    rw (first_stays _ _ _ _ _ _ _ _ _ _ c.self.invariant room c.take_slot-at.ensures.taken some)
    (omega (arith, f.longer, (c.self.invariant.lists c.in-Some.head some).inside))

pub link_slot-requires-clause-count : goal.link_slot-requires-clause-count
link_slot-requires-clause-count c =
    let room : c.self.inside.used < c.self.inside.limit = omega (arith, c.if-self.false, c.self.invariant.made, c.self.invariant.fits) in
    let h = held _ _ _ _ _ _ c.self.view_is c.in-Some.is c.requires in
    let some : 0 < (slot_at c.self.inside.slots.items c.in-Some.head).count = omega (arith, h.some, h.count_is) in
    rw (first_stays _ _ _ _ _ _ _ _ _ _ c.self.invariant room c.take_slot-at.ensures.taken some)
    (omega (arith, room, c.self.invariant.most, h.count_is, track_fits _ _ _ _ _ _ _ _ c.self.invariant c.self.view_is c.requires))

pub overflow_add-track : goal.overflow_add-track
overflow_add-track c =
    let fits = track_fits _ _ _ _ _ _ _ _ c.self.invariant c.self.view_is c.requires in
    elim c.match-track.branch [
      | in-None w ↦ rw w.track-is (omega (arith, fits, c.self.invariant.most, c.self.invariant.made, c.self.invariant.fits))
      | in-Some w ↦ rw w.track-is (omega (arith, fits, c.self.invariant.most, c.self.invariant.made, c.self.invariant.fits))
    ]

pub invariant_of-self : goal.invariant_of-self
invariant_of-self c =
    let room : c.self.inside.used < c.self.inside.limit = omega (arith, c.if-self.false, c.self.invariant.made, c.self.invariant.fits) in
    elim c.match-track.branch [
      | in-None w ↦
          let more : vec_capacity c.self.inside.slots ≤ vec_capacity w.begin_list.new.slots = omega (arith, c.take_slot-at.ensures.capacity, w.begin_list.ensures.capacity) in
          rw w.self-inside-is (begun _ _ _ _ _ _ _ _ _ _ _ c.self.invariant room more refl c.take_slot-at.ensures.taken w.begin_list.ensures.begun).pool
      | in-Some w ↦
          let h = held _ _ _ _ _ _ c.self.view_is w.in-Some.is c.requires in
          let some : 0 < (slot_at c.self.inside.slots.items w.in-Some.head).count = omega (arith, h.some, h.count_is) in
          let more : vec_capacity c.self.inside.slots ≤ vec_capacity w.link_slot.new.slots = omega (arith, c.take_slot-at.ensures.capacity, w.link_slot.ensures.capacity) in
          rw w.self-inside-is (linked _ _ _ _ _ _ _ _ _ _ _ _ c.self.invariant room more refl refl some c.take_slot-at.ensures.taken w.link_slot.ensures.linked).pool
    ]

pub returns-clause-pushed : goal.returns-clause-pushed
returns-clause-pushed c =
    let room : c.self.inside.used < c.self.inside.limit = omega (arith, c.if-self.false, c.self.invariant.made, c.self.invariant.fits) in
    elim c.match-track.branch [
      | in-None w ↦
          let more : vec_capacity c.self.inside.slots ≤ vec_capacity w.begin_list.new.slots = omega (arith, c.take_slot-at.ensures.capacity, w.begin_list.ensures.capacity) in
          let m = begun _ _ _ _ _ _ _ _ _ _ _ c.self.invariant room more refl c.take_slot-at.ensures.taken w.begin_list.ensures.begun in
          let f = taken_is_free _ _ _ _ _ _ _ _ _ c.self.invariant room c.take_slot-at.ensures.taken in
          let none = free_counts_none _ _ _ _ _ c.self.invariant c.take_slot-at.result f.unowned in
          rw (w.self-inside-is, w.track-is) (pushed _ _ _ _ _ _ _ _ _ _ _ c.args.track.now _ c.args.span c.self.invariant m c.self.view_is
          (nothing_there _ _ _ _ _ c.self.view_is f.below none w.in-None.is) (begins c.args.self.now c.args.track.now c.args.span w.in-None.is) refl refl)
      | in-Some w ↦
          let h = held _ _ _ _ _ _ c.self.view_is w.in-Some.is c.requires in
          let some : 0 < (slot_at c.self.inside.slots.items w.in-Some.head).count = omega (arith, h.some, h.count_is) in
          let more : vec_capacity c.self.inside.slots ≤ vec_capacity w.link_slot.new.slots = omega (arith, c.take_slot-at.ensures.capacity, w.link_slot.ensures.capacity) in
          let m = linked _ _ _ _ _ _ _ _ _ _ _ _ c.self.invariant room more refl refl some c.take_slot-at.ensures.taken w.link_slot.ensures.linked in
          rw (w.self-inside-is, w.track-is) (pushed _ _ _ _ _ _ _ _ _ _ _ c.args.track.now _ c.args.span c.self.invariant m c.self.view_is
          (goes_on c.args.self.now c.args.track.now w.in-Some.head w.in-Some.is)
          (sym (ap (λ l. l ++ c.args.span ∷ []) (listed _ _ _ _ _ _ c.self.view_is w.in-Some.is c.requires))) w.in-Some.is refl)
    ]

pub returns-clause-held : goal.returns-clause-held
returns-clause-held c = push_holds _ _ _ _ _ c.requires (returns-clause-pushed c)

pub returns-clause-others : goal.returns-clause-others
returns-clause-others c = push_keeps _ _ _ _ _ (returns-clause-pushed c)
