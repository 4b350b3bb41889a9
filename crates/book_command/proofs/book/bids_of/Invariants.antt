use Rattle.std.proofs.Common.{◌≡◌, ◌++◌, map, drop}
use Rattle.book_command.specs.Bookings.{bid_of}
use Rattle.book_command.proofs.book.bids_of.Given as goal

-- the bids so far, which those of the other contacts complete
abbrev pub invariant-loop-k : goal.invariant-loop-k
invariant-loop-k l = l.bids.items ++ map bid_of (drop l.k l.table) ≡ map bid_of l.table
