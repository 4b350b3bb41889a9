use Rattle.pass_text.specs.DayLayout.{day_span_lines}
use Rattle.run_ends.proofs.PrintedLemmas.{IsPrintedTo}
use Rattle.day_command.proofs.print.print_spans.Given as goal

abbrev pub invariant-loop-k : goal.invariant-loop-k
invariant-loop-k g l = IsPrintedTo g.K.Sink (day_span_lines l.day.window.start) l.initial.out l.out l.day.list l.k
