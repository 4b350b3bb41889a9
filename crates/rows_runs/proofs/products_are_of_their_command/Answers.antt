use Rattle.rows_runs.proofs.ProductLaws.{products_are_of_their_command}
use Rattle.rows_runs.proofs.products_are_of_their_command.Goals as goal

pub returns : goal.returns
returns c = products_are_of_their_command
