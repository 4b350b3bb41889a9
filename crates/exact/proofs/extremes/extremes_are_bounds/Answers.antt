use Rattle.exact.proofs.ExtremeLaws.{larger_le, le_larger, le_lesser, lesser_le}
use Rattle.exact.proofs.extremes.extremes_are_bounds.Goals as goal

pub returns-clause-larger : goal.returns-clause-larger
returns-clause-larger c x y = (le_larger x y, larger_le x y)

pub returns-clause-lesser : goal.returns-clause-lesser
returns-clause-lesser c x y = (lesser_le x y, le_lesser x y)
