use Rattle.std.proofs.Common.{◌≡◌, take}
use Rattle.plan_text.specs.Timetable.{contacts_at}
use Rattle.plan_core.specs.State.{plan_record}
use Rattle.plan_core.proofs.table.timetable.Given as goal

-- the contacts with the satellites so far
abbrev pub invariant-loop-sat : goal.invariant-loop-sat
invariant-loop-sat l = l.contacts.items ≡ contacts_at l.station (take l.sat (plan_record l.plan).satellites)
