use Rattle.std.proofs.Common.{arith}
use Rattle.station_file.proofs.BorderLemmas.{le_in_code}
use Rattle.station_file.proofs.border.is_near.Goals as goal

pub returns : goal.returns
returns c = le_in_code _ _ c.units.result c.units_after.result c.units.ensures.value c.units_after.ensures.value (omega (arith, c.units.ensures.size)) c.units_after.ensures.size
