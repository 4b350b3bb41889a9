use Rattle.std.proofs.Common.{◌∙◌}
use Rattle.station_file.specs.Tables.{is_first_key}
use Rattle.station_file.proofs.KeyLemmas.{has_only_keys}
use Rattle.station_file.proofs.table.has_first_keys.Goals as goal

pub returns : goal.returns
returns c = c.are_first_keys.ensures ∙ has_only_keys is_first_key c.args.table.now.entries
