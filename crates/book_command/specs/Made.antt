-- A plan that was made and booked.
use Rattle.std.specs.Prelude.{◌≡◌, ℕ, List}
use Rattle.book_command.specs.Bookings.{AreBooked}
use Rattle.book_command.specs.State.{BookState}
use Rattle.catalogue.specs.declared.entry.Entry.{Entry}
use Rattle.elements.specs.Window.{WindowRecord}
use Rattle.plan_command.specs.Planned.{IsPlanFor}
use Rattle.plan_core.specs.State.{PlanState, plan_record}
use Rattle.station_file.specs.Rows.{StationsRecord}

-- the plan is this one, and its stations are booked with so many antennas
pub record IsBookOf (plan : PlanState) (antennas : ℕ) (book : BookState) : Type 0 where
  pub plan_is : book.plan ≡ plan
  pub booked : AreBooked (plan_record plan) antennas book.bookings

-- the plan is certified for satellites, stations and a window, and its stations are booked with so many antennas
pub record IsBookFor (satellites : List Entry) (stations : StationsRecord) (window : WindowRecord) (antennas : ℕ) (book : BookState) : Type 0 where
  pub plan : IsPlanFor satellites stations window book.plan
  pub booked : AreBooked (plan_record book.plan) antennas book.bookings
