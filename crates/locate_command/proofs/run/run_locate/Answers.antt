use Rattle.std.proofs.Common.{refl}
use Rattle.run_ends.proofs.CommandLemmas.{catalogue_loaded, catalogue_refused, run_behind, with_product}
use Rattle.locate_command.specs.Located.{locate}
use Rattle.locate_command.proofs.run.run_locate.Goals as goal

pub returns-in-Ok : goal.returns-in-Ok
returns-in-Ok g c =
    run_behind (locate c.args.name.now c.args.number c.args.at) c.write_located.result
    (catalogue_loaded c.in-Ok.ensures.answer c.in-Ok.ensures.counts)
    (with_product c.write_located.result (λ answer h. record { entries = c.in-Ok.satellites; of_file = c.in-Ok.ensures.answer; answers = h }) c.write_located.ensures.product)
    c.write_located.ensures.written c.write_located.ensures.cause

pub returns-in-Err : goal.returns-in-Err
returns-in-Err g c =
    rw c.refuse.ensures.ending
    (catalogue_refused (locate c.args.name.now c.args.number c.args.at) c.args.name.now c.args.at (refl, refl) c.in-Err.ensures.cause c.in-Err.ensures.counts
    c.in-Err.ensures.later c.refuse.ensures.written)
