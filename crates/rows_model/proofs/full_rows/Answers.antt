use Rattle.rows_model.proofs.SmallCases.{full_rows}
use Rattle.rows_model.proofs.full_rows.Goals as goal

pub returns : goal.returns
returns c = full_rows
