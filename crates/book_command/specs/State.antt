-- What a contract sees of a plan with its bookings.
use Rattle.std.specs.Prelude.{Bool, true, false, ◌&&◌, List}
use Rattle.std.specs.List.{list_all}
use Rattle.book_command.specs.declared.station.StationBooking.{StationBooking}
use Rattle.book_command.specs.declared.station.StationBooking.TheVariants.{TooMany, Booked}
use Rattle.plan_core.specs.State.{PlanState, plan_record}
use Rattle.plan_core.specs.Whole as plans

-- a plan, and for each station its booking
pub record BookState : Type 0 where
  pub plan : PlanState
  pub bookings : List StationBooking

-- the contacts of the station are booked
abbrev pub is_booked : StationBooking → Bool
is_booked (TooMany contacts) = false
is_booked (Booked booked) = true

-- the plan is whole, and no station has too many contacts
abbrev pub is_whole : BookState → Bool
is_whole book = plans.is_whole (plan_record book.plan) && list_all is_booked book.bookings
