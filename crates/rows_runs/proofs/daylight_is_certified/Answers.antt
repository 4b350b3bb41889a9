use Rattle.rows_runs.proofs.ProductLaws.{daylight_is_certified}
use Rattle.rows_runs.proofs.daylight_is_certified.Goals as goal

pub returns : goal.returns
returns c = daylight_is_certified
