use Rattle.plan_core.specs.State.{plan_record}
use Rattle.plan_text.specs.SatLine.{sat_lines}
use Rattle.run_ends.proofs.PrintedLemmas.{IsPrintedTo}
use Rattle.plan_command.proofs.head.print_satellites.Given as goal

abbrev pub invariant-loop-k : goal.invariant-loop-k
invariant-loop-k g l = IsPrintedTo g.K.Sink sat_lines l.initial.out l.out (plan_record l.plan).satellites l.k
