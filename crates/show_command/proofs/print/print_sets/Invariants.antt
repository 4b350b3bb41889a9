use Rattle.pass_text.specs.ShowLayout.{set_lines}
use Rattle.run_ends.proofs.PrintedLemmas.{IsPrintedTo}
use Rattle.show_command.proofs.print.print_sets.Given as goal

abbrev pub invariant-loop-k : goal.invariant-loop-k
invariant-loop-k g l = IsPrintedTo g.K.Sink set_lines l.initial.out l.out l.catalogue l.k
