use Rattle.exact.proofs.ExtremeLaws.{sum_of-append}
use Rattle.exact.proofs.extremes.sums_go_on.Goals as goal

pub returns : goal.returns
returns c = sum_of-append
