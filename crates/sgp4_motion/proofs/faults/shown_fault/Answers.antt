use Rattle.std.proofs.Common.{inl}
use Rattle.exact.proofs.Integers.{of_int_is}
use Rattle.decimals.specs.OrderLaws.{lt_of_not_le}
use Rattle.sgp4_motion.proofs.FaultLemmas.{denies, shows}
use Rattle.sgp4_motion.proofs.faults.shown_fault.Goals as goal

pub returns-then-is_below-2-clause-some : goal.returns-then-is_below-2-clause-some
returns-then-is_below-2-clause-some c = (
  rw (c.of_scaled.ensures.value, c.ecc.ensures.value) at (denies c.is_below.ensures c.if-is_below.false),
  rw (c.whole.ensures.value, c.incl.ensures.value, of_int_is) at (shows c.is_below-2.ensures c.if-is_below-2.true),
)

pub returns-then-is_dragged-clause-some : goal.returns-then-is_dragged-clause-some
returns-then-is_dragged-clause-some c = (
  (
    rw (c.of_scaled.ensures.value, c.ecc.ensures.value) at (denies c.is_below.ensures c.if-is_below.false),
    rw (c.whole.ensures.value, c.incl.ensures.value, of_int_is) at (denies c.is_below-2.ensures c.if-is_below-2.false),
  ),
  rw c.bstar.ensures.value at (shows c.is_dragged.ensures c.if-is_dragged.true),
)

pub returns-then-is_at_most-clause-some : goal.returns-then-is_at_most-clause-some
returns-then-is_at_most-clause-some c = record {
  ordinary = record {
    not_eccentric = rw (c.of_scaled.ensures.value, c.ecc.ensures.value) at (denies c.is_below.ensures c.if-is_below.false);
    not_inclined = rw (c.whole.ensures.value, c.incl.ensures.value, of_int_is) at (denies c.is_below-2.ensures c.if-is_below-2.false);
    not_dragged = rw c.bstar.ensures.value at (denies c.is_dragged.ensures c.if-is_dragged.false);
  };
  slow = inl (rw (c.motion.ensures.value, c.of_scaled-2.ensures.value) at (shows c.is_at_most.ensures c.if-is_at_most.true));
}

pub returns-then-is_at_most-2-clause-some : goal.returns-then-is_at_most-2-clause-some
returns-then-is_at_most-2-clause-some c = record {
  ordinary = record {
    not_eccentric = rw (c.of_scaled.ensures.value, c.ecc.ensures.value) at (denies c.is_below.ensures c.if-is_below.false);
    not_inclined = rw (c.whole.ensures.value, c.incl.ensures.value, of_int_is) at (denies c.is_below-2.ensures c.if-is_below-2.false);
    not_dragged = rw c.bstar.ensures.value at (denies c.is_dragged.ensures c.if-is_dragged.false);
  };
  fast = inl (rw (c.motion-2.ensures.value, c.whole-2.ensures.value, of_int_is) at (shows c.is_at_most-2.ensures c.if-is_at_most-2.true));
}

pub returns-clause-ordinary : goal.returns-clause-ordinary
returns-clause-ordinary c = record {
  not_eccentric = rw (c.of_scaled.ensures.value, c.ecc.ensures.value) at (denies c.is_below.ensures c.if-is_below.false);
  not_inclined = rw (c.whole.ensures.value, c.incl.ensures.value, of_int_is) at (denies c.is_below-2.ensures c.if-is_below-2.false);
  not_dragged = rw c.bstar.ensures.value at (denies c.is_dragged.ensures c.if-is_dragged.false);
}

pub returns-clause-between : goal.returns-clause-between
returns-clause-between c =
    let slow = rw (c.motion.ensures.value, c.of_scaled-2.ensures.value) at (denies c.is_at_most.ensures c.if-is_at_most.false) in
    let fast = rw (c.motion-2.ensures.value, c.whole-2.ensures.value, of_int_is) at (denies c.is_at_most-2.ensures c.if-is_at_most-2.false) in
    record { above = lt_of_not_le _ _ slow; below = lt_of_not_le _ _ fast }
