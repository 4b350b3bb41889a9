use Rattle.std.proofs.Common.{refl}
use Rattle.run_ends.proofs.CommandLemmas.{catalogue_loaded, catalogue_refused, made}
use Rattle.show_command.specs.Shown.{show}
use Rattle.show_command.proofs.run.run_show.Goals as goal

pub returns-in-Ok : goal.returns-in-Ok
returns-in-Ok g c =
    rw c.ended.ensures
    (made c.print_show-printed.result (show c.args.name.now c.args.start) (catalogue_loaded c.in-Ok.ensures.answer c.in-Ok.ensures.counts)
    c.in-Ok.ensures.answer c.print_show-printed.ensures)

pub returns-in-Err : goal.returns-in-Err
returns-in-Err g c =
    rw c.refuse.ensures.ending
    (catalogue_refused (show c.args.name.now c.args.start) c.args.name.now c.args.start (refl, refl) c.in-Err.ensures.cause c.in-Err.ensures.counts
    c.in-Err.ensures.later c.refuse.ensures.written)
