use Rattle.rows_model.proofs.SmallCases.{unresolved_rows}
use Rattle.rows_model.proofs.unresolved_rows.Goals as goal

pub returns : goal.returns
returns c = unresolved_rows
