use Rattle.plan_core.specs.State.{plan_record}
use Rattle.book_command.proofs.BidLemmas.{AreFirst}
use Rattle.book_command.proofs.book.bookings_of.Given as goal

-- the bookings so far
abbrev pub invariant-loop-k : goal.invariant-loop-k
invariant-loop-k l = AreFirst (plan_record l.plan) l.antennas l.bookings.items l.k
