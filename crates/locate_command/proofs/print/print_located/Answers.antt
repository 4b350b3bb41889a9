use Rattle.std.proofs.Common.{codes, ◌++◌, ◌∙◌}
use Rattle.pass_text.specs.LocateLayout.{at_line, found_lines}
use Rattle.run_ends.proofs.PrintedLemmas.{cut_first, cut_second, failed, printed_then}
use Rattle.sat_locate.specs.Found.{found_record}
use Rattle.locate_command.proofs.print.print_located.Goals as goal

pub returns-in_err-put_line : goal.returns-in_err-put_line
returns-in_err-put_line g c = failed _ c.from_residual.ensures.0 (cut_first (codes "PASSLOCATE 1\n") _ c.in_err-put_line.ensures)

pub returns-in_err-put_line-2 : goal.returns-in_err-put_line-2
returns-in_err-put_line-2 g c =
    let line = c.bytes.ensures.value ∙ c.at_line.ensures in
    failed _ c.from_residual-in_err-put_line-2.ensures.0
    (cut_second (codes "PASSLOCATE 1\n") _ c.in_ok-put_line.ensures (cut_first (at_line c.args.answer.now.at) _ (rw line at c.in_err-put_line-2.ensures)))

pub returns-in_err-print_found : goal.returns-in_err-print_found
returns-in_err-print_found g c =
    let line = c.bytes.ensures.value ∙ c.at_line.ensures in
    failed _ c.from_residual-in_err-print_found.ensures.0
    (cut_second (codes "PASSLOCATE 1\n") _ c.in_ok-put_line.ensures
    (cut_second (at_line c.args.answer.now.at) _ (rw line at c.in_ok-put_line-2.ensures) (cut_first _ (codes "END\n") c.in_err-print_found.ensures)))

pub returns : goal.returns
returns g c =
    let line = c.bytes.ensures.value ∙ c.at_line.ensures in
    let found = found_lines c.args.answer.now.number (found_record c.args.answer.now.found) in
    printed_then g.K.Sink c.put_line-3.result c.args.out.now c.put_line.new.out c.put_line-3.new.out (codes "PASSLOCATE 1\n") (at_line c.args.answer.now.at ++ (found ++ codes "END\n"))
    c.in_ok-put_line.ensures
    (printed_then g.K.Sink c.put_line-3.result c.put_line.new.out c.put_line-2.new.out c.put_line-3.new.out (at_line c.args.answer.now.at) (found ++ codes "END\n")
    (rw line at c.in_ok-put_line-2.ensures)
    (printed_then g.K.Sink c.put_line-3.result c.put_line-2.new.out c.print_found.new.out c.put_line-3.new.out found (codes "END\n")
    c.in_ok-print_found.ensures c.put_line-3.ensures))
