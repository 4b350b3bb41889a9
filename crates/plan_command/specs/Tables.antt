-- The timetables of a plan's stations.
use Rattle.std.specs.Prelude.{◌≡◌, ℕ, ◌≤◌, List, length, slice_get, Some}
use Rattle.plan_text.specs.Plan.{PlanRecord}
use Rattle.plan_text.specs.Timetable.{timetable}
use Rattle.contact_alloc.specs.declared.bid.Contact.{Contact}

-- these are the timetables of the stations, one for each, in order
pub record AreTables (plan : PlanRecord) (tables : List (List Contact)) : Type 0 where
  pub count : length tables ≡ length plan.stations
  pub each : (k : ℕ) (table : List Contact) → slice_get tables k ≡ Some table → table ≡ timetable plan k

-- a contact lies in a window of so many ticks
pub record IsContactWithin (ticks : ℕ) (contact : Contact) : Type 0 where
  pub from : contact.from ≤ ticks
  pub to : contact.to ≤ ticks
