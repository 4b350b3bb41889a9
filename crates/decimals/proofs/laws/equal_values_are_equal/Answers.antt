use Rattle.decimals.proofs.UnitsLemmas.{equal_values}
use Rattle.decimals.proofs.laws.equal_values_are_equal.Goals as goal

pub returns : goal.returns
returns c = equal_values
