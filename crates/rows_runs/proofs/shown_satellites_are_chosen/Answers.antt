use Rattle.rows_runs.proofs.ProductLaws.{shown_satellites_are_chosen}
use Rattle.rows_runs.proofs.shown_satellites_are_chosen.Goals as goal

pub returns : goal.returns
returns c = shown_satellites_are_chosen
