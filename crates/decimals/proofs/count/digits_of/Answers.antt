use Rattle.decimals.specs.NumberText.{number_after}
use Rattle.decimals.proofs.SignificantLemmas.{nothing_kept}
use Rattle.decimals.proofs.count.digits_of.Goals as goal

pub count-requires-in-Some-clause-kept : goal.count-requires-in-Some-clause-kept
count-requires-in-Some-clause-kept c = (number_after 0 c.args.whole.now, c.in-Some.ensures.keeps 0 nothing_kept)
