use Rattle.std.proofs.Common.{◌+◌, ◌<◌, arith, drop, length}
use Rattle.std.proofs.lemmas.Option.{slice_get-get_or}
use Rattle.plan_text.specs.BookLines.{use_lines}
use Rattle.run_ends.proofs.PrintedLemmas.{failed}
use Rattle.book_command.proofs.LineLemmas.{cut_left, less_left, uses_at}
use Rattle.book_command.proofs.lines.print_uses.Goals as goal

pub returns-in_err-print_use : goal.returns-in_err-print_use
returns-in_err-print_use g c =
    let bids = c.args.bids.now in
    let used = c.args.used.now in
    let start = c.args.window.start in
    let there : c.loop-i.i < length used = omega (arith, c.requires.one_each, c.loop-i-test.true) in
    failed _ c.from_residual.ensures.0
    (cut_left (use_lines start (drop (c.loop-i.i + 1) bids) (drop (c.loop-i.i + 1) used))
    (uses_at start bids used c.loop-i.i _ _ (slice_get-get_or bids c.loop-i.i _ c.loop-i-test.true) (slice_get-get_or used c.loop-i.i _ there))
    c.loop-i.invariant c.in_err-print_use.ensures)

pub loop-i-preserved : goal.loop-i-preserved
loop-i-preserved g c =
    let bids = c.args.bids.now in
    let used = c.args.used.now in
    let there : c.loop-i.i < length used = omega (arith, c.requires.one_each, c.loop-i-test.true) in
    less_left
    (uses_at c.args.window.start bids used c.loop-i.i _ _ (slice_get-get_or bids c.loop-i.i _ c.loop-i-test.true) (slice_get-get_or used c.loop-i.i _ there))
    c.loop-i.invariant c.in_ok-print_use.ensures
