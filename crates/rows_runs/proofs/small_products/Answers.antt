use Rattle.rows_runs.proofs.SmallCases.{small_products}
use Rattle.rows_runs.proofs.small_products.Goals as goal

pub returns : goal.returns
returns c = small_products
