use Rattle.rows_catalogue.proofs.SmallNames.{small_names}
use Rattle.rows_catalogue.proofs.small_names.Goals as goal

pub returns : goal.returns
returns c = small_names
