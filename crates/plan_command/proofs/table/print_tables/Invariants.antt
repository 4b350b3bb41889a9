use Rattle.plan_command.proofs.NumberedLemmas.{IsPrintedFrom}
use Rattle.plan_core.specs.State.{plan_record}
use Rattle.plan_text.specs.TableLines.{table_blocks}
use Rattle.plan_command.proofs.table.print_tables.Given as goal

abbrev pub invariant-loop-k : goal.invariant-loop-k
invariant-loop-k g l = IsPrintedFrom g.K.Sink (table_blocks (plan_record l.plan)) 0 l.initial.out l.out (plan_record l.plan).stations l.k
