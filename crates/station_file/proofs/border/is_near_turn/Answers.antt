use Rattle.station_file.proofs.BorderLemmas.{le_in_code}
use Rattle.station_file.proofs.border.is_near_turn.Goals as goal

pub returns : goal.returns
returns c = le_in_code _ _ c.units_after.result c.units_after-2.result c.units_after.ensures.value c.units_after-2.ensures.value c.units_after.ensures.size c.units_after-2.ensures.size
