use Rattle.std.proofs.Common.{length, refl}
use Rattle.std.proofs.lemmas.Option.{slice_get_read}
use Rattle.run_ends.proofs.PrintedLemmas.{failed}
use Rattle.plan_command.proofs.NumberedLemmas.{one_cut, one_more}
use Rattle.plan_command.proofs.PartLemmas.{all_at}
use Rattle.book_command.specs.Printable.{IsPrintable}
use Rattle.book_command.proofs.LineLemmas.{book_blocks_are}
use Rattle.book_command.proofs.print.print_bookings.Goals as goal

pub print_booking-requires : goal.print_booking-requires
print_booking-requires g c =
    let bookings = c.args.bookings.now in
    let booking = c.index-bookings-k.result in
    let is = slice_get_read bookings (length bookings) c.loop-k.k booking refl c.loop-k-test.true c.index-bookings-k.is in
    all_at (IsPrintable c.args.window.ticks) bookings c.loop-k.k booking is c.requires.printable

pub returns-in_err-print_booking : goal.returns-in_err-print_booking
returns-in_err-print_booking g c =
    let bookings = c.args.bookings.now in
    let booking = c.index-bookings-k.result in
    let is = slice_get_read bookings (length bookings) c.loop-k.k booking refl c.loop-k-test.true c.index-bookings-k.is in
    failed _ c.from_residual.ensures.0 (one_cut (book_blocks_are c.args.window.start) booking is c.loop-k.invariant c.in_err-print_booking.ensures)

pub loop-k-preserved : goal.loop-k-preserved
loop-k-preserved g c =
    let bookings = c.args.bookings.now in
    let booking = c.index-bookings-k.result in
    let is = slice_get_read bookings (length bookings) c.loop-k.k booking refl c.loop-k-test.true c.index-bookings-k.is in
    one_more (book_blocks_are c.args.window.start) booking is c.loop-k.invariant c.in_ok-print_booking.ensures
