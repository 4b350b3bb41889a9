use Rattle.plan_command.proofs.NumberedLemmas.{IsPrintedFrom}
use Rattle.plan_core.specs.State.{plan_record}
use Rattle.plan_text.specs.HeadLines.{station_lines}
use Rattle.plan_command.proofs.head.print_stations.Given as goal

abbrev pub invariant-loop-k : goal.invariant-loop-k
invariant-loop-k g l = IsPrintedFrom g.K.Sink station_lines 1 l.initial.out l.out (plan_record l.plan).stations l.k
