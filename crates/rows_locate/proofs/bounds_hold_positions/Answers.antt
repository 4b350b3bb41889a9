use Rattle.rows_locate.proofs.PositionLaws.{bounds_hold_positions}
use Rattle.rows_locate.proofs.bounds_hold_positions.Goals as goal

pub returns : goal.returns
returns c = bounds_hold_positions
