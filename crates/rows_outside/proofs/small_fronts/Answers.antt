use Rattle.rows_outside.proofs.SmallFronts.{small_fronts}
use Rattle.rows_outside.proofs.small_fronts.Goals as goal

pub returns : goal.returns
returns c = small_fronts
