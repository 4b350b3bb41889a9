use Rattle.rows_model.proofs.PartCases.{three_sectors_go_round}
use Rattle.rows_model.proofs.three_sectors_go_round.Goals as goal

pub returns : goal.returns
returns c = three_sectors_go_round
