use Rattle.std.proofs.Common.{drop}
use Rattle.plan_text.specs.BookLines.{price_lines}
use Rattle.book_command.proofs.LineLemmas.{IsPrintedBut}
use Rattle.book_command.proofs.lines.print_prices.Given as goal

abbrev pub invariant-loop-j : goal.invariant-loop-j
invariant-loop-j g l =
    IsPrintedBut g.K.Sink l.initial.out l.out (price_lines l.window.start (drop l.j l.ends) (drop l.j l.prices))
    (price_lines l.window.start l.ends l.prices)
