use Rattle.rows_locate.proofs.PositionLaws.{found_as_it_is}
use Rattle.rows_locate.proofs.found_as_it_is.Goals as goal

pub returns : goal.returns
returns c = found_as_it_is
