use Rattle.rows_model.proofs.ToleranceCases.{modest_rows, pair_rows}
use Rattle.rows_model.proofs.known_pairs.Goals as goal

pub returns-clause-pairs : goal.returns-clause-pairs
returns-clause-pairs c = pair_rows

pub returns-clause-angles : goal.returns-clause-angles
returns-clause-angles c = modest_rows
