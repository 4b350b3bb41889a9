use Rattle.std.proofs.Common.{◌+◌, ◌<◌, ◌≤◌, arith, drop, length}
use Rattle.std.proofs.lemmas.Option.{slice_get-get_or}
use Rattle.plan_text.specs.BookLines.{price_lines}
use Rattle.run_ends.proofs.PrintedLemmas.{failed}
use Rattle.book_command.proofs.LineLemmas.{cut_left, less_left, no_prices, none_left, prices_at}
use Rattle.book_command.proofs.lines.print_prices.Goals as goal

pub returns-in_err-print_price : goal.returns-in_err-print_price
returns-in_err-print_price g c =
    let ends = c.args.ends.now in
    let prices = c.args.prices.now in
    let start = c.args.window.start in
    let j = c.loop-j.j in
    let here : c.loop-j.j < length ends = omega (arith, c.requires.one_each, c.loop-j-test.true) in
    let next : c.loop-j.j + 1 < length ends = omega (arith, c.requires.one_each, c.loop-j-test.true) in
    failed _ c.from_residual.ensures.0
    (cut_left (price_lines start (drop (j + 1) ends) (drop (j + 1) prices))
    (prices_at start ends prices j _ _ _ (slice_get-get_or ends j _ here) (slice_get-get_or ends (j + 1) _ next) (slice_get-get_or prices j _ c.loop-j-test.true))
    c.loop-j.invariant c.in_err-print_price.ensures)

pub loop-j-preserved : goal.loop-j-preserved
loop-j-preserved g c =
    let ends = c.args.ends.now in
    let prices = c.args.prices.now in
    let j = c.loop-j.j in
    let here : c.loop-j.j < length ends = omega (arith, c.requires.one_each, c.loop-j-test.true) in
    let next : c.loop-j.j + 1 < length ends = omega (arith, c.requires.one_each, c.loop-j-test.true) in
    less_left
    (prices_at c.args.window.start ends prices j _ _ _ (slice_get-get_or ends j _ here) (slice_get-get_or ends (j + 1) _ next) (slice_get-get_or prices j _ c.loop-j-test.true))
    c.loop-j.invariant c.in_ok-print_price.ensures

pub returns : goal.returns
returns g c =
    let over : length c.args.prices.now ≤ c.loop-j.j = omega (arith, c.loop-j-test.false, c.loop-j.auto.j-end) in
    none_left (no_prices c.args.window.start c.args.ends.now c.args.prices.now c.loop-j.j over) c.loop-j.invariant
