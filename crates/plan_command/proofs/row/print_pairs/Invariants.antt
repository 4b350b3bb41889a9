use Rattle.std.specs.Prelude.{slice_get}
use Rattle.plan_command.specs.Parts.{pair_rows}
use Rattle.plan_command.proofs.NumberedLemmas.{IsPrintedFrom}
use Rattle.plan_text.specs.RowLines.{pair_blocks}
use Rattle.plan_command.proofs.row.print_pairs.Given as goal

abbrev pub invariant-loop-station : goal.invariant-loop-station
invariant-loop-station g l =
    IsPrintedFrom g.K.Sink (pair_blocks l.plan.setting.window.start l.number) 1 l.initial.out l.out (pair_rows l.plan (slice_get l.plan.satellites l.sat)) l.station
