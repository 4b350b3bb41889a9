use Rattle.rows_catalogue.proofs.SmallNames.{small_catalogues}
use Rattle.rows_catalogue.proofs.small_catalogues.Goals as goal

pub returns : goal.returns
returns c = small_catalogues
