-- What is booked at the stations of a plan.
use Rattle.std.specs.Prelude.{◌≡◌, ℕ, ◌-◌, ◌<◌, ◌≤◌, List, length, map, slice_get, All, Some}
use Rattle.book_command.specs.Record.{BookedRecord}
use Rattle.book_command.specs.declared.station.StationBooking.{StationBooking}
use Rattle.book_command.specs.declared.station.StationBooking.TheVariants.{TooMany, Booked}
use Rattle.contact_alloc.specs.Allocation.{allocation_value}
use Rattle.contact_alloc.specs.Prices.{Certifies}
use Rattle.contact_alloc.specs.declared.bid.Bid.{Bid}
use Rattle.contact_alloc.specs.declared.bid.Contact.{Contact}
use Rattle.plan_text.specs.Plan.{PlanRecord}
use Rattle.plan_text.specs.Timetable.{timetable}

-- a contact as a bid: it is worth its length in ticks
abbrev pub bid_of : Contact → Bid
bid_of contact = record { contact = contact; value = contact.to - contact.from }

-- the bids of a station, counted from 0: the contacts of its timetable
abbrev pub bids_at : PlanRecord → ℕ → List Bid
bids_at plan station = map bid_of (timetable plan station)

-- the most contacts that are booked at a station
abbrev pub most_bids : ℕ
most_bids = 65_536

-- the bids are booked with so many antennas: no others are; the prices certify the allocation; the value is its own
pub record AreAllotted (bids : List Bid) (antennas : ℕ) (booked : BookedRecord) : Type 0 where
  pub bids_are : booked.bids ≡ bids
  pub certified : Certifies bids antennas booked.booking.used booked.booking.prices
  pub value : booked.booking.value ≡ allocation_value bids booked.booking.used

-- what is booked of these bids: nothing exactly where they are too many, and then they are counted; else all are allotted
abbrev pub IsBooked : List Bid → ℕ → StationBooking → Type 0
IsBooked bids antennas (TooMany contacts) = (most_bids < length bids) × (contacts ≡ length bids)
IsBooked bids antennas (Booked booked) = (length bids ≤ most_bids) × AreAllotted bids antennas booked

-- these are the bookings of a plan's stations, one for each, in order
pub record AreBooked (plan : PlanRecord) (antennas : ℕ) (bookings : List StationBooking) : Type 0 where
  pub count : length bookings ≡ length plan.stations
  pub each : (k : ℕ) (booking : StationBooking) → slice_get bookings k ≡ Some booking → IsBooked (bids_at plan k) antennas booking

-- a contact ends after it begins
abbrev pub IsForward : Contact → Type 0
IsForward contact = contact.from < contact.to

-- so do all contacts of a plan's timetables
abbrev pub AreForward : PlanRecord → Type 0
AreForward plan = (station : ℕ) → All IsForward (timetable plan station)
