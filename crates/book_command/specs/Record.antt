-- What is seen of the contacts of a station that are booked.
use Rattle.std.specs.Prelude.{List}
use Rattle.contact_alloc.specs.Booked.{BookingRecord}
use Rattle.contact_alloc.specs.declared.bid.Bid.{Bid}

-- the contacts as bids, and their booking
pub record BookedRecord : Type 0 where
  pub bids : List Bid
  pub booking : BookingRecord
