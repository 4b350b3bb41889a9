use Rattle.rows_locate.proofs.SmallAnswers.{small_answers}
use Rattle.rows_locate.proofs.small_answers.Goals as goal

pub returns : goal.returns
returns c = small_answers
