use Rattle.std.proofs.Common.{ap, length, sym, subst, ◌≤◌, ◌-◌, ◌++◌, ◌∙◌, List, All, ℕ}
use Rattle.contact_alloc.specs.Booked.{BookingRecord}
use Rattle.contact_alloc.specs.Stretches.{ends}
use Rattle.plan_text.specs.BookLines.{book_line, price_lines, use_lines}
use Rattle.run_ends.proofs.PrintedLemmas.{cut_first, cut_second, failed, printed_then}
use Rattle.book_command.proofs.BidLemmas.{IsBidWithin, ends_within}
use Rattle.book_command.proofs.lines.print_booked.Goals as goal

pub print_uses-requires-clause-one_each : goal.print_uses-requires-clause-one_each
print_uses-requires-clause-one_each g c =
    ap length (c.used.ensures ∙ ap (λ (b : BookingRecord). b.used) c.booking-booking.ensures) ∙ c.requires.one_each ∙ ap length (sym c.bids-bids.ensures)

pub print_uses-requires-clause-within : goal.print_uses-requires-clause-within
print_uses-requires-clause-within g c = subst (All (IsBidWithin c.args.window.ticks)) (sym c.bids-bids.ensures) c.requires.within

pub print_prices-requires-clause-one_each : goal.print_prices-requires-clause-one_each
print_prices-requires-clause-one_each g c =
    ap length (c.prices.ensures ∙ ap (λ (b : BookingRecord). b.prices) c.booking-booking.ensures) ∙ c.requires.prices
    ∙ ap (λ (xs : List ℕ). length xs - 1) (sym c.ends.ensures)

pub print_prices-requires-clause-within : goal.print_prices-requires-clause-within
print_prices-requires-clause-within g c =
    subst (All (λ at. at ≤ c.args.window.ticks)) (sym c.ends.ensures) (ends_within c.args.window.ticks c.args.booked.now.bids c.requires.within)

pub returns-in_err-put_line : goal.returns-in_err-put_line
returns-in_err-put_line g c =
    let booked = c.args.booked.now in
    let bids = ap length c.bids-bids.ensures in
    let value = c.value.ensures ∙ ap (λ (b : BookingRecord). b.value) c.booking-booking.ensures in
    let line =
    c.bytes.ensures.value ∙ c.book_line.ensures ∙ ap (λ n. book_line c.args.index n c.value.result) bids
    ∙ ap (book_line c.args.index (length booked.bids)) value in
    failed _ c.from_residual.ensures.0 (cut_first (book_line c.args.index (length booked.bids) booked.booking.value) _ (rw line at c.in_err-put_line.ensures))

pub returns-in_err-print_uses : goal.returns-in_err-print_uses
returns-in_err-print_uses g c =
    let booked = c.args.booked.now in
    let start = c.args.window.start in
    let bids = ap length c.bids-bids.ensures in
    let value = c.value.ensures ∙ ap (λ (b : BookingRecord). b.value) c.booking-booking.ensures in
    let line =
    c.bytes.ensures.value ∙ c.book_line.ensures ∙ ap (λ n. book_line c.args.index n c.value.result) bids
    ∙ ap (book_line c.args.index (length booked.bids)) value in
    let used = c.used.ensures ∙ ap (λ (b : BookingRecord). b.used) c.booking-booking.ensures in
    let uses = ap (λ bs. use_lines start bs c.used.result.now) c.bids-bids.ensures ∙ ap (use_lines start booked.bids) used in
    failed _ c.from_residual-in_err-print_uses.ensures.0
    (cut_second (book_line c.args.index (length booked.bids) booked.booking.value) _ (rw line at c.in_ok-put_line.ensures)
    (cut_first (use_lines start booked.bids booked.booking.used) _ (rw uses at c.in_err-print_uses.ensures)))

pub returns : goal.returns
returns g c =
    let booked = c.args.booked.now in
    let start = c.args.window.start in
    let bids = ap length c.bids-bids.ensures in
    let value = c.value.ensures ∙ ap (λ (b : BookingRecord). b.value) c.booking-booking.ensures in
    let line =
    c.bytes.ensures.value ∙ c.book_line.ensures ∙ ap (λ n. book_line c.args.index n c.value.result) bids
    ∙ ap (book_line c.args.index (length booked.bids)) value in
    let used = c.used.ensures ∙ ap (λ (b : BookingRecord). b.used) c.booking-booking.ensures in
    let uses = ap (λ bs. use_lines start bs c.used.result.now) c.bids-bids.ensures ∙ ap (use_lines start booked.bids) used in
    let prices = c.prices.ensures ∙ ap (λ (b : BookingRecord). b.prices) c.booking-booking.ensures in
    let costs = ap (λ es. price_lines start es c.prices.result.now) c.ends.ensures ∙ ap (price_lines start (ends booked.bids)) prices in
    let first = book_line c.args.index (length booked.bids) booked.booking.value in
    let second = use_lines start booked.bids booked.booking.used in
    let third = price_lines start (ends booked.bids) booked.booking.prices in
    printed_then g.K.Sink c.print_prices.result c.args.out.now c.put_line.new.out c.print_prices.new.out first (second ++ third)
    (rw line at c.in_ok-put_line.ensures)
    (printed_then g.K.Sink c.print_prices.result c.put_line.new.out c.print_uses.new.out c.print_prices.new.out second third
    (rw uses at c.in_ok-print_uses.ensures) (rw costs at c.print_prices.ensures))
