use Rattle.rows_model.proofs.ToleranceCases.{pi_rows}
use Rattle.rows_model.proofs.ends_of_the_bracket.Goals as goal

pub returns : goal.returns
returns c = pi_rows
