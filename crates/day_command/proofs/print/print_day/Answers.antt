use Rattle.std.proofs.Common.{ap, codes, ◌++◌, ◌∙◌}
use Rattle.pass_text.specs.DayLayout.{day_answer_lines, window_line}
use Rattle.run_ends.proofs.PrintedLemmas.{cut_first, cut_second, failed, printed_then}
use Rattle.day_command.proofs.print.print_day.Goals as goal

pub returns-in_err-put_line : goal.returns-in_err-put_line
returns-in_err-put_line g c = failed _ c.from_residual.ensures.0 (cut_first (codes "PASSDAY 1\n") _ c.in_err-put_line.ensures)

pub returns-in_err-put_line-2 : goal.returns-in_err-put_line-2
returns-in_err-put_line-2 g c =
    let line = c.bytes.ensures.value ∙ c.window_line.ensures ∙ ap window_line c.window.ensures in
    failed _ c.from_residual-in_err-put_line-2.ensures.0
    (cut_second (codes "PASSDAY 1\n") _ c.in_ok-put_line.ensures (cut_first (window_line c.args.day.now.window) _ (rw line at c.in_err-put_line-2.ensures)))

pub returns-in_err-print_answer : goal.returns-in_err-print_answer
returns-in_err-print_answer g c =
    let line = c.bytes.ensures.value ∙ c.window_line.ensures ∙ ap window_line c.window.ensures in
    failed _ c.from_residual-in_err-print_answer.ensures.0
    (cut_second (codes "PASSDAY 1\n") _ c.in_ok-put_line.ensures
    (cut_second (window_line c.args.day.now.window) _ (rw line at c.in_ok-put_line-2.ensures) (cut_first _ (codes "END\n") c.in_err-print_answer.ensures)))

pub returns : goal.returns
returns g c =
    let line = c.bytes.ensures.value ∙ c.window_line.ensures ∙ ap window_line c.window.ensures in
    let answer = day_answer_lines c.args.day.now.window.start c.args.day.now.answer c.args.day.now.list in
    printed_then g.K.Sink c.put_line-3.result c.args.out.now c.put_line.new.out c.put_line-3.new.out (codes "PASSDAY 1\n") (window_line c.args.day.now.window ++ (answer ++ codes "END\n"))
    c.in_ok-put_line.ensures
    (printed_then g.K.Sink c.put_line-3.result c.put_line.new.out c.put_line-2.new.out c.put_line-3.new.out (window_line c.args.day.now.window) (answer ++ codes "END\n")
    (rw line at c.in_ok-put_line-2.ensures)
    (printed_then g.K.Sink c.put_line-3.result c.put_line-2.new.out c.print_answer.new.out c.put_line-3.new.out answer (codes "END\n")
    c.in_ok-print_answer.ensures c.put_line-3.ensures))
