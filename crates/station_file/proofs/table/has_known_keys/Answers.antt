use Rattle.std.proofs.Common.{◌∙◌}
use Rattle.station_file.specs.Tables.{is_station_key}
use Rattle.station_file.proofs.KeyLemmas.{has_only_keys}
use Rattle.station_file.proofs.table.has_known_keys.Goals as goal

pub returns : goal.returns
returns c = c.are_station_keys.ensures ∙ has_only_keys is_station_key c.args.table.now.entries
