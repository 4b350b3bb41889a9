use Rattle.std.proofs.Common.{◌∙◌}
use Rattle.grid_command.proofs.GeneratedLemmas.{midnight_is}
use Rattle.grid_command.proofs.set.midnight.Goals as goal

pub returns : goal.returns
returns c = c.from_nanos.ensures ∙ midnight_is
