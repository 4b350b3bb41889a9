use Rattle.rows_model.proofs.SmallCases.{small_truths}
use Rattle.rows_model.proofs.small_truths.Goals as goal

pub returns : goal.returns
returns c = small_truths
