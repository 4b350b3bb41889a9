use Rattle.plan_text.specs.TableLines.{pass_lines}
use Rattle.run_ends.proofs.PrintedLemmas.{IsPrintedTo}
use Rattle.plan_command.proofs.table.print_passes.Given as goal

abbrev pub invariant-loop-k : goal.invariant-loop-k
invariant-loop-k g l = IsPrintedTo g.K.Sink (pass_lines l.window.start) l.initial.out l.out l.table l.k
