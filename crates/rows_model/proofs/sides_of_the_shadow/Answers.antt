use Rattle.rows_model.proofs.HorizonCases.{shadow_rows}
use Rattle.rows_model.proofs.sides_of_the_shadow.Goals as goal

pub returns : goal.returns
returns c = shadow_rows
