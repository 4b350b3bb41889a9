use Rattle.std.proofs.Common.{ap, refl, Ok}
use Rattle.grid_command.proofs.GeneratedLemmas.{added_satellite}
use Rattle.grid_command.proofs.satellites.add_satellite.Goals as goal

pub returns : goal.returns
returns c =
    added_satellite c.args.k c.requires.few c.args.catalogue.now c.add.new.self c.set_at.result c.in_ok-name.name c.in_ok-add.field-0 c.requires.before c.set_at.ensures c.in_ok-name.ensures
    (c.in_ok-add.ensures.added _ refl) (λ e. c.in_ok-add.ensures.appended (ap Ok e))
