use Rattle.std.proofs.Common.{codes, ◌++◌, subst}
use Rattle.plan_core.specs.State.{plan_record}
use Rattle.plan_text.specs.RowLines.{row_blocks}
use Rattle.plan_text.specs.TableLines.{table_blocks}
use Rattle.run_ends.proofs.PrintedLemmas.{cut_first, cut_second, failed, printed_then}
use Rattle.run_ends.specs.Printed.{IsCutOff, IsPrinted}
use Rattle.plan_command.specs.Head.{head_lines}
use Rattle.plan_command.proofs.PartLemmas.{layout_is}
use Rattle.plan_command.proofs.print.print_plan.Goals as goal

pub returns-in_err-put_line : goal.returns-in_err-put_line
returns-in_err-put_line g c = failed _ c.from_residual.ensures.0 (cut_first (codes "PASSPLAN 1\n") _ c.in_err-put_line.ensures)

pub returns-in_err-print_head : goal.returns-in_err-print_head
returns-in_err-print_head g c =
    failed _ c.from_residual-in_err-print_head.ensures.0
    (subst (IsCutOff g.K.Sink c.args.out.now c.print_head.new.out) (layout_is (plan_record c.args.plan.now))
    (cut_second (codes "PASSPLAN 1\n") _ c.in_ok-put_line.ensures (cut_first (head_lines (plan_record c.args.plan.now)) _ c.in_err-print_head.ensures)))

pub returns-in_err-print_rows : goal.returns-in_err-print_rows
returns-in_err-print_rows g c =
    let plan = plan_record c.args.plan.now in
    failed _ c.from_residual-in_err-print_rows.ensures.0
    (subst (IsCutOff g.K.Sink c.args.out.now c.print_rows.new.out) (layout_is plan)
    (cut_second (codes "PASSPLAN 1\n") _ c.in_ok-put_line.ensures
    (cut_second (head_lines plan) _ c.in_ok-print_head.ensures (cut_first (row_blocks plan.window.start plan.satellites) _ c.in_err-print_rows.ensures))))

pub returns-in_err-print_tables : goal.returns-in_err-print_tables
returns-in_err-print_tables g c =
    let plan = plan_record c.args.plan.now in
    failed _ c.from_residual-in_err-print_tables.ensures.0
    (subst (IsCutOff g.K.Sink c.args.out.now c.print_tables.new.out) (layout_is plan)
    (cut_second (codes "PASSPLAN 1\n") _ c.in_ok-put_line.ensures
    (cut_second (head_lines plan) _ c.in_ok-print_head.ensures
    (cut_second (row_blocks plan.window.start plan.satellites) _ c.in_ok-print_rows.ensures (cut_first (table_blocks plan 0 plan.stations) (codes "END\n") c.in_err-print_tables.ensures)))))

pub returns : goal.returns
returns g c =
    let plan = plan_record c.args.plan.now in
    let head = head_lines plan in
    let rows = row_blocks plan.window.start plan.satellites in
    let tables = table_blocks plan 0 plan.stations in
    let last = c.put_line-2 in
    subst (IsPrinted g.K.Sink last.result c.args.out.now last.new.out) (layout_is plan)
    (printed_then g.K.Sink last.result c.args.out.now c.put_line.new.out last.new.out (codes "PASSPLAN 1\n") (head ++ (rows ++ (tables ++ codes "END\n")))
    c.in_ok-put_line.ensures
    (printed_then g.K.Sink last.result c.put_line.new.out c.print_head.new.out last.new.out head (rows ++ (tables ++ codes "END\n"))
    c.in_ok-print_head.ensures
    (printed_then g.K.Sink last.result c.print_head.new.out c.print_rows.new.out last.new.out rows (tables ++ codes "END\n")
    c.in_ok-print_rows.ensures
    (printed_then g.K.Sink last.result c.print_rows.new.out c.print_tables.new.out last.new.out tables (codes "END\n")
    c.in_ok-print_tables.ensures last.ensures))))
