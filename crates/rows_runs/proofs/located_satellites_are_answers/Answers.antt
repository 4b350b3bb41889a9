use Rattle.rows_runs.proofs.ProductLaws.{located_satellites_are_answers}
use Rattle.rows_runs.proofs.located_satellites_are_answers.Goals as goal

pub returns : goal.returns
returns c = located_satellites_are_answers
