use Rattle.grid_command.proofs.TickLemmas as lemmas
use Rattle.grid_command.proofs.laws.ticks_add_up.Goals as goal

pub returns : goal.returns
returns c = lemmas.ticks_add_up
