-- That no booking is worth more.
use Rattle.std.proofs.Common.{◌≤◌, sym, subst}
use Rattle.book_command.specs.BookLaws.{BookingsAreBest}
use Rattle.book_command.specs.declared.station.StationBooking.TheVariants.{Booked}
use Rattle.contact_alloc.specs.Allocation.{allocation_value}
use Rattle.contact_alloc.specs.Laws.{CertifiedValueIsGreatest}
use Rattle.book_command.specs.Bookings.{bids_at}

pub bookings_are_best : CertifiedValueIsGreatest → BookingsAreBest
bookings_are_best greatest plan antennas bookings station booked are is =
    let bids = bids_at plan station in
    let used = booked.booking.used in
    let allotted = (are.each station (Booked booked) is).1 in
    record {
      bids_are = allotted.bids_are;
      allocation = allotted.certified.allocation;
      value = allotted.value;
      best = λ other o.
          subst (λ v. allocation_value bids other ≤ v) (sym allotted.value)
          (greatest bids antennas used booked.booking.prices other allotted.certified o);
    }
