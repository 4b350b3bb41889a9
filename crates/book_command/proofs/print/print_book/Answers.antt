use Rattle.std.proofs.Common.{codes, ap, subst, sym, All, List, ◌++◌, ◌∙◌}
use Rattle.elements.specs.Window.{WindowRecord}
use Rattle.plan_core.specs.State.{PlanState, plan_record}
use Rattle.run_ends.proofs.PrintedLemmas.{cut_first, cut_second, failed, printed_then}
use Rattle.plan_command.specs.Head.{head_lines}
use Rattle.book_command.specs.BookLayout.{book_blocks}
use Rattle.book_command.specs.Printable.{IsPrintable}
use Rattle.book_command.specs.declared.station.StationBooking.{StationBooking}
use Rattle.book_command.proofs.print.print_book.Goals as goal

pub print_bookings-requires-clause-few : goal.print_bookings-requires-clause-few
print_bookings-requires-clause-few g c = rw c.bookings.ensures c.requires.few

pub print_bookings-requires-clause-printable : goal.print_bookings-requires-clause-printable
print_bookings-requires-clause-printable g c =
    let window = c.window.ensures.value ∙ ap (λ (p : PlanState). p.setting.window) c.plan-plan.ensures in
    subst (λ (bs : List StationBooking). All (IsPrintable c.window.result.ticks) bs) (sym c.bookings.ensures)
    (subst (λ (w : WindowRecord). All (IsPrintable w.ticks) c.args.book.now.bookings) (sym window) c.requires.printable)

pub returns-in_err-put_line : goal.returns-in_err-put_line
returns-in_err-put_line g c = failed _ c.from_residual.ensures.0 (cut_first (codes "PASSBOOK 1\n") _ c.in_err-put_line.ensures)

pub returns-in_err-print_head : goal.returns-in_err-print_head
returns-in_err-print_head g c =
    let head = ap (λ p. head_lines (plan_record p)) c.plan-plan.ensures in
    failed _ c.from_residual-in_err-print_head.ensures.0
    (cut_second (codes "PASSBOOK 1\n") _ c.in_ok-put_line.ensures
    (cut_first (head_lines (plan_record c.args.book.now.plan)) _ (rw head at c.in_err-print_head.ensures)))

pub returns-in_err-print_bookings : goal.returns-in_err-print_bookings
returns-in_err-print_bookings g c =
    let book = c.args.book.now in
    let head = ap (λ p. head_lines (plan_record p)) c.plan-plan.ensures in
    let window = c.window.ensures.value ∙ ap (λ (p : PlanState). p.setting.window) c.plan-plan.ensures in
    let blocks =
    ap (λ (w : WindowRecord). book_blocks w.start 1 c.bookings.result.now) window
    ∙ ap (book_blocks book.plan.setting.window.start 1) c.bookings.ensures in
    failed _ c.from_residual-in_err-print_bookings.ensures.0
    (cut_second (codes "PASSBOOK 1\n") _ c.in_ok-put_line.ensures
    (cut_second (head_lines (plan_record book.plan)) _ (rw head at c.in_ok-print_head.ensures)
    (cut_first (book_blocks book.plan.setting.window.start 1 book.bookings) (codes "END\n") (rw blocks at c.in_err-print_bookings.ensures))))

pub returns : goal.returns
returns g c =
    let book = c.args.book.now in
    let head = head_lines (plan_record book.plan) in
    let blocks = book_blocks book.plan.setting.window.start 1 book.bookings in
    let head_is = ap (λ p. head_lines (plan_record p)) c.plan-plan.ensures in
    let window = c.window.ensures.value ∙ ap (λ (p : PlanState). p.setting.window) c.plan-plan.ensures in
    let blocks_are =
    ap (λ (w : WindowRecord). book_blocks w.start 1 c.bookings.result.now) window
    ∙ ap (book_blocks book.plan.setting.window.start 1) c.bookings.ensures in
    let last = c.put_line-2 in
    printed_then g.K.Sink last.result c.args.out.now c.put_line.new.out last.new.out (codes "PASSBOOK 1\n") (head ++ (blocks ++ codes "END\n"))
    c.in_ok-put_line.ensures
    (printed_then g.K.Sink last.result c.put_line.new.out c.print_head.new.out last.new.out head (blocks ++ codes "END\n")
    (rw head_is at c.in_ok-print_head.ensures)
    (printed_then g.K.Sink last.result c.print_head.new.out c.print_bookings.new.out last.new.out blocks (codes "END\n")
    (rw blocks_are at c.in_ok-print_bookings.ensures) last.ensures))
