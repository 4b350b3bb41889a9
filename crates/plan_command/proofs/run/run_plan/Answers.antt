use Rattle.std.proofs.Common.{refl}
use Rattle.plan_core.specs.State.{plan_record}
use Rattle.plan_text.specs.Plan.{most_spans}
use Rattle.run_ends.proofs.CommandLemmas.{both_loaded, catalogue_refused, run_behind, stations_refused, with_product}
use Rattle.plan_command.specs.Planned.{plan_of, setting_of}
use Rattle.plan_command.proofs.LawLemmas.{clear_rows_are_resolved}
use Rattle.plan_command.proofs.run.run_plan.Goals as goal

pub returns-in-Ok-load_stations : goal.returns-in-Ok-load_stations
returns-in-Ok-load_stations g c =
    let answer = rw c.start.ensures.value at c.in-Ok.ensures.answer in
    let places = rw (c.in-Ok.ensures.same.held c.args.stations.now) at c.in-Ok-load_stations.ensures.answer in
    run_behind (plan_of c.args.catalogue.now c.args.stations.now c.args.window) c.write_plan.result
    (both_loaded answer c.in-Ok.ensures.counts c.in-Ok.ensures.same c.in-Ok-load_stations.ensures.answer c.in-Ok-load_stations.ensures.counts)
    (with_product c.write_plan.result
    (λ plan h. record {
      entries = c.in-Ok.satellites;
      places = c.in-Ok-load_stations.places;
      of_catalogue = answer;
      of_stations = places;
      certified = h.certified;
      resolved = clear_rows_are_resolved most_spans c.in-Ok.satellites (setting_of c.in-Ok-load_stations.places c.args.window) (plan_record plan) h.certified;
      none_lost = h.none_lost;
    }) c.write_plan.ensures.product)
    c.write_plan.ensures.written c.write_plan.ensures.cause

pub returns-in-Err-load_stations : goal.returns-in-Err-load_stations
returns-in-Err-load_stations g c =
    let answer = rw c.start.ensures.value at c.in-Ok.ensures.answer in
    rw c.refuse.ensures.ending
    (stations_refused (plan_of c.args.catalogue.now c.args.stations.now c.args.window) refl answer c.in-Ok.ensures.counts c.in-Ok.ensures.same
    c.in-Err-load_stations.ensures.cause c.in-Err-load_stations.ensures.counts c.in-Err-load_stations.ensures.later c.refuse.ensures.written)

pub returns-in-Err : goal.returns-in-Err
returns-in-Err g c =
    rw c.refuse-in-Err.ensures.ending
    (catalogue_refused (plan_of c.args.catalogue.now c.args.stations.now c.args.window) c.args.catalogue.now c.args.window.start (refl, refl)
    (rw c.start.ensures.value at c.in-Err.ensures.cause) c.in-Err.ensures.counts c.in-Err.ensures.later c.refuse-in-Err.ensures.written)
