use Rattle.run_ends.proofs.PrintedLemmas.{ended_written}
use Rattle.plan_core.specs.State.{plan_record}
use Rattle.book_command.specs.BookLayout.{book_text}
use Rattle.book_command.proofs.BidLemmas.{all_printable, bookings_few}
use Rattle.book_command.proofs.run.write_planned.Goals as goal

pub returns-in-Ok-clause-written : goal.returns-in-Ok-clause-written
returns-in-Ok-clause-written g c =
    rw c.ended.ensures
    (ended_written g.K.Sink book_text c.of-book.result c.print_book-printed.result c.args.out.now c.print_book-printed.new.out c.print_book-printed.ensures)

pub print_book-printed-requires-clause-few : goal.print_book-printed-requires-clause-few
print_book-printed-requires-clause-few g c =
    rw c.of-book.ensures (bookings_few (plan_record c.args.plan) c.args.antennas c.in-Ok.bookings.items c.window-window.ensures.plan c.in-Ok.ensures)

pub print_book-printed-requires-clause-printable : goal.print_book-printed-requires-clause-printable
print_book-printed-requires-clause-printable g c =
    rw c.of-book.ensures (all_printable (plan_record c.args.plan) c.args.antennas c.in-Ok.bookings.items c.window-window.ensures.plan c.in-Ok.ensures)
