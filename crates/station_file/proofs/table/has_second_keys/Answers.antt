use Rattle.std.proofs.Common.{◌∙◌}
use Rattle.station_file.specs.Tables.{is_second_key}
use Rattle.station_file.proofs.KeyLemmas.{has_only_keys}
use Rattle.station_file.proofs.table.has_second_keys.Goals as goal

pub returns : goal.returns
returns c = c.are_second_keys.ensures ∙ has_only_keys is_second_key c.args.table.now.entries
