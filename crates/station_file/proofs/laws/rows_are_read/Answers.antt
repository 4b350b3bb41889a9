use Rattle.station_file.proofs.InRangeLemmas.{rows_are_read}
use Rattle.station_file.proofs.laws.rows_are_read.Goals as goal

pub returns : goal.returns
returns c = rows_are_read
