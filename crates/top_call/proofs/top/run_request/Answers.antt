use Rattle.run_ends.proofs.MappedLemmas.{mapped_is}
use Rattle.top_call.proofs.RequestLemmas.{book_allowed, book_run, day_run, grid_run, locate_run, plan_allowed, plan_run, show_run}
use Rattle.top_call.specs.declared.outcome.Product.TheVariants.{Day, Plan, Shown, Located, Counted, Booked}
use Rattle.top_call.proofs.top.run_request.Goals as goal

pub returns-in-Day : goal.returns-in-Day
returns-in-Day g c =
    rw c.in-Day.is
    (day_run g.S.Shelf g.K.Sink c.args.words.now c.args.shelf.now c.args.shelf.now c.args.out.now c.run_day.new.out
    c.in-Day.lat c.in-Day.lon c.in-Day.window c.run_day.result c.map.result (mapped_is Day (λ p q is. is) c.run_day.result c.map.result c.map.ensures)
    c.run_day.ensures.product c.run_day.ensures.written c.run_day.ensures.cause)

pub returns-in-Show : goal.returns-in-Show
returns-in-Show g c =
    rw c.in-Show.is
    (show_run g.S.Shelf g.K.Sink c.args.words.now c.args.shelf.now c.run_show.new.shelf c.args.out.now c.run_show.new.out
    c.in-Show.catalogue c.in-Show.start c.text_at.result.now c.run_show.result c.map-in-Show.result
    (mapped_is Shown (λ p q is. is) c.run_show.result c.map-in-Show.result c.map-in-Show.ensures) c.text_at.ensures c.run_show.ensures)

pub returns-in-Locate : goal.returns-in-Locate
returns-in-Locate g c =
    rw c.in-Locate.is
    (locate_run g.S.Shelf g.K.Sink c.args.words.now c.args.shelf.now c.run_locate.new.shelf c.args.out.now c.run_locate.new.out
    c.in-Locate.catalogue c.in-Locate.number c.in-Locate.at c.text_at-in-Locate.result.now c.run_locate.result c.map-in-Locate.result
    (mapped_is Located (λ p q is. is) c.run_locate.result c.map-in-Locate.result c.map-in-Locate.ensures) c.text_at-in-Locate.ensures c.run_locate.ensures)

pub returns-in-Plan : goal.returns-in-Plan
returns-in-Plan g c =
    rw c.in-Plan.is
    (plan_run g.S.Shelf g.K.Sink c.args.words.now c.args.shelf.now c.run_plan.new.shelf c.args.out.now c.run_plan.new.out
    c.in-Plan.catalogue c.in-Plan.stations c.in-Plan.window c.text_at-satellites.result.now c.text_at-places.result.now c.run_plan.result
    c.map-in-Plan.result (mapped_is Plan (λ p q is. is) c.run_plan.result c.map-in-Plan.result c.map-in-Plan.ensures)
    c.text_at-satellites.ensures c.text_at-places.ensures c.run_plan.ensures)

pub run_plan-requires-clause-catalogue : goal.run_plan-requires-clause-catalogue
run_plan-requires-clause-catalogue g c =
    plan_allowed g.S.Shelf c.args.shelf.now c.args.words.now c.args.request c.in-Plan.catalogue c.in-Plan.stations c.in-Plan.window
    c.text_at-satellites.result.now c.in-Plan.is c.text_at-satellites.ensures c.requires.allowed

pub returns-in-Grid : goal.returns-in-Grid
returns-in-Grid g c =
    rw c.in-Grid.is
    (grid_run g.S.Shelf g.K.Sink c.args.words.now c.args.shelf.now c.args.shelf.now c.args.out.now c.run_grid.new.out
    c.in-Grid.count c.run_grid.result c.map-in-Grid.result (mapped_is Counted (λ p q is. is) c.run_grid.result c.map-in-Grid.result c.map-in-Grid.ensures)
    c.run_grid.ensures.product c.run_grid.ensures.written c.run_grid.ensures.cause)

pub returns-in-Book : goal.returns-in-Book
returns-in-Book g c =
    rw c.in-Book.is
    (book_run g.S.Shelf g.K.Sink c.args.words.now c.args.shelf.now c.run_book.new.shelf c.args.out.now c.run_book.new.out
    c.in-Book.catalogue c.in-Book.stations c.in-Book.window c.in-Book.antennas c.text_at-satellites-in-Book.result.now c.text_at-places-in-Book.result.now c.run_book.result
    c.map-in-Book.result (mapped_is Booked (λ p q is. is) c.run_book.result c.map-in-Book.result c.map-in-Book.ensures)
    c.text_at-satellites-in-Book.ensures c.text_at-places-in-Book.ensures c.run_book.ensures)

pub run_book-requires-clause-catalogue : goal.run_book-requires-clause-catalogue
run_book-requires-clause-catalogue g c =
    book_allowed g.S.Shelf c.args.shelf.now c.args.words.now c.args.request c.in-Book.catalogue c.in-Book.stations c.in-Book.window c.in-Book.antennas
    c.text_at-satellites-in-Book.result.now c.in-Book.is c.text_at-satellites-in-Book.ensures c.requires.allowed
