-- What a timetable is: the visible spans of its station, each once, in order.
use Rattle.std.specs.Prelude.{◌≡◌, ℕ, List}
use Rattle.std.specs.List.Sorted.{IsPermutation, IsSortedBy}
use Rattle.contact_alloc.specs.declared.bid.Contact.{Contact}
use Rattle.plan_text.specs.Plan.{PlanRecord}
use Rattle.plan_text.specs.Timetable.{comes_before, contacts_at, timetable}

-- a list has these contacts, each as often, and none comes before the one in front of it
pub record IsInOrder (contacts list : List Contact) : Type 0 where
  pub moves : IsPermutation contacts list
  pub rises : IsSortedBy comes_before list

-- the timetable of a station has the visible spans of its rows in order, and no other list has
abbrev pub TimetablesAreInOrder : Type 0
TimetablesAreInOrder =
    (plan : PlanRecord) (station : ℕ) →
    IsInOrder (contacts_at station plan.satellites) (timetable plan station)
    × ((list : List Contact) → IsInOrder (contacts_at station plan.satellites) list → list ≡ timetable plan station)
