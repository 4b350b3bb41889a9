use Rattle.std.proofs.Common.{All, sym, subst}
use Rattle.elements.specs.Window.{most_ticks}
use Rattle.plan_core.specs.State.{plan_record}
use Rattle.plan_command.specs.Tables.{IsContactWithin}
use Rattle.plan_command.proofs.TableLemmas.{timetable_within}
use Rattle.plan_text.specs.Timetable.{timetable}
use Rattle.book_command.specs.Bookings.{IsForward}
use Rattle.book_command.proofs.BidLemmas.{within_longer}
use Rattle.book_command.proofs.book.booking_of.Goals as goal

pub booked_of-requires-clause-forward : goal.booked_of-requires-clause-forward
booked_of-requires-clause-forward c = subst (All IsForward) (sym c.in_ok-table.ensures) (c.requires.forward c.args.station)

pub booked_of-requires-clause-short : goal.booked_of-requires-clause-short
booked_of-requires-clause-short c =
    let plan = plan_record c.args.plan.now in
    let is = c.window-window.ensures.plan in
    subst (All (IsContactWithin most_ticks)) (sym c.in_ok-table.ensures)
    (within_longer plan.window.ticks most_ticks (timetable plan c.args.station) is.window.most (timetable_within plan c.args.station is))
