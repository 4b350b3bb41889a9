use Rattle.std.proofs.Common.{refl}
use Rattle.run_ends.proofs.CommandLemmas.{both_loaded, catalogue_refused, run_behind, stations_refused, with_product}
use Rattle.book_command.specs.BookedAt.{book_of}
use Rattle.book_command.proofs.ForwardLemmas.{planned_at}
use Rattle.book_command.proofs.run.run_book.Goals as goal

pub returns-in-Ok-load_stations : goal.returns-in-Ok-load_stations
returns-in-Ok-load_stations g c =
    let answer = rw c.start.ensures.value at c.in-Ok.ensures.answer in
    let places = rw (c.in-Ok.ensures.same.held c.args.stations.now) at c.in-Ok-load_stations.ensures.answer in
    run_behind (book_of c.args.catalogue.now c.args.stations.now c.args.window c.args.antennas) c.write_book.result
    (both_loaded answer c.in-Ok.ensures.counts c.in-Ok.ensures.same c.in-Ok-load_stations.ensures.answer c.in-Ok-load_stations.ensures.counts)
    (with_product c.write_book.result (λ book h. record { planned = planned_at book.plan answer places h.plan; booked = h.booked }) c.write_book.ensures.product)
    c.write_book.ensures.written c.write_book.ensures.cause

pub returns-in-Err-load_stations : goal.returns-in-Err-load_stations
returns-in-Err-load_stations g c =
    let answer = rw c.start.ensures.value at c.in-Ok.ensures.answer in
    rw c.refuse.ensures.ending
    (stations_refused (book_of c.args.catalogue.now c.args.stations.now c.args.window c.args.antennas) refl answer c.in-Ok.ensures.counts c.in-Ok.ensures.same
    c.in-Err-load_stations.ensures.cause c.in-Err-load_stations.ensures.counts c.in-Err-load_stations.ensures.later c.refuse.ensures.written)

pub returns-in-Err : goal.returns-in-Err
returns-in-Err g c =
    rw c.refuse-in-Err.ensures.ending
    (catalogue_refused (book_of c.args.catalogue.now c.args.stations.now c.args.window c.args.antennas) c.args.catalogue.now c.args.window.start (refl, refl)
    (rw c.start.ensures.value at c.in-Err.ensures.cause) c.in-Err.ensures.counts c.in-Err.ensures.later c.refuse-in-Err.ensures.written)
