-- Bookings that can be printed.
use Rattle.std.specs.Prelude.{◌≡◌, ℕ, ◌≤◌, length, All, ⊤}
use Rattle.book_command.specs.Bookings.{most_bids}
use Rattle.book_command.specs.Record.{BookedRecord}
use Rattle.book_command.specs.declared.station.StationBooking.{StationBooking}
use Rattle.book_command.specs.declared.station.StationBooking.TheVariants.{TooMany, Booked}
use Rattle.contact_alloc.specs.Stretches.{stretch_count}
use Rattle.plan_command.specs.Tables.{IsContactWithin}

-- there are few bids, a number of an antenna for each and a price for each stretch; the contacts lie in a window of so many ticks
pub record ArePrintable (ticks : ℕ) (booked : BookedRecord) : Type 0 where
  pub few : length booked.bids ≤ most_bids
  pub one_each : length booked.booking.used ≡ length booked.bids
  pub prices : length booked.booking.prices ≡ stretch_count booked.bids
  pub within : All (λ bid. IsContactWithin ticks bid.contact) booked.bids

-- so it is where contacts are booked
abbrev pub IsPrintable : ℕ → StationBooking → Type 0
IsPrintable ticks (TooMany contacts) = ⊤
IsPrintable ticks (Booked booked) = ArePrintable ticks booked
