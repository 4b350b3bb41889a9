use Rattle.lin_form.proofs.BetweenLemmas.{covered_lies_between}
use Rattle.lin_form.proofs.laws.covered_lies_between.Goals as goal

pub returns : goal.returns
returns c = covered_lies_between
