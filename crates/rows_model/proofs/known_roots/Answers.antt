use Rattle.rows_model.proofs.ToleranceCases.{cube_root_rows, square_root_rows}
use Rattle.rows_model.proofs.known_roots.Goals as goal

pub returns-clause-squares : goal.returns-clause-squares
returns-clause-squares c = square_root_rows

pub returns-clause-cubes : goal.returns-clause-cubes
returns-clause-cubes c = cube_root_rows
