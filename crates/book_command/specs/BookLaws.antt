-- Laws of bookings: what they say of each station, told without prices.
use Rattle.std.specs.Prelude.{◌≡◌, ℕ, ◌≤◌, List, slice_get, Some}
use Rattle.book_command.specs.Bookings.{AreBooked, bids_at}
use Rattle.book_command.specs.Record.{BookedRecord}
use Rattle.book_command.specs.declared.station.StationBooking.{StationBooking}
use Rattle.book_command.specs.declared.station.StationBooking.TheVariants.{Booked}
use Rattle.contact_alloc.specs.Allocation.{IsAllocation, allocation_value}
use Rattle.contact_alloc.specs.declared.bid.Bid.{Bid}
use Rattle.plan_text.specs.Plan.{PlanRecord}

-- the bids are booked as an allocation to so many antennas, of this value; no other allocation of them is worth more
pub record IsBest (bids : List Bid) (antennas : ℕ) (booked : BookedRecord) : Type 0 where
  pub bids_are : booked.bids ≡ bids
  pub allocation : IsAllocation bids antennas booked.booking.used
  pub value : booked.booking.value ≡ allocation_value bids booked.booking.used
  pub best : (other : List ℕ) → IsAllocation bids antennas other → allocation_value bids other ≤ booked.booking.value

-- so it is at each station of a plan whose contacts are booked
abbrev pub BookingsAreBest : Type 0
BookingsAreBest =
    (plan : PlanRecord) (antennas : ℕ) (bookings : List StationBooking) (station : ℕ) (booked : BookedRecord) →
    AreBooked plan antennas bookings → slice_get bookings station ≡ Some (Booked booked) →
    IsBest (bids_at plan station) antennas booked
