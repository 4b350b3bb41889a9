use Rattle.std.proofs.Common.{drop}
use Rattle.plan_text.specs.BookLines.{use_lines}
use Rattle.book_command.proofs.LineLemmas.{IsPrintedBut}
use Rattle.book_command.proofs.lines.print_uses.Given as goal

abbrev pub invariant-loop-i : goal.invariant-loop-i
invariant-loop-i g l =
    IsPrintedBut g.K.Sink l.initial.out l.out (use_lines l.window.start (drop l.i l.bids) (drop l.i l.used)) (use_lines l.window.start l.bids l.used)
