use Rattle.plan_command.proofs.NumberedLemmas.{IsPrintedFrom}
use Rattle.book_command.specs.BookLayout.{book_blocks}
use Rattle.book_command.proofs.print.print_bookings.Given as goal

abbrev pub invariant-loop-k : goal.invariant-loop-k
invariant-loop-k g l = IsPrintedFrom g.K.Sink (book_blocks l.window.start) 1 l.initial.out l.out l.bookings l.k
