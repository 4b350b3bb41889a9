use Rattle.rows_model.proofs.SinkingCases.{decay_rows}
use Rattle.rows_model.proofs.decaying_rows.Goals as goal

pub returns : goal.returns
returns c = decay_rows
