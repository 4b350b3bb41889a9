use Rattle.plan_core.specs.State.{plan_record}
use Rattle.plan_text.specs.RowLines.{row_blocks}
use Rattle.run_ends.proofs.PrintedLemmas.{IsPrintedTo}
use Rattle.plan_command.proofs.row.print_rows.Given as goal

abbrev pub invariant-loop-sat : goal.invariant-loop-sat
invariant-loop-sat g l = IsPrintedTo g.K.Sink (row_blocks l.plan.setting.window.start) l.initial.out l.out (plan_record l.plan).satellites l.sat
