use Rattle.std.proofs.Common.{◌≡◌, [], drop, length}
use Rattle.toml.specs.View.{items_view}
use Rattle.station_file.specs.Rows.{AreRows}
use Rattle.station_file.specs.StationFile.{rows_after}
use Rattle.station_file.proofs.read.rows_of.Given as goal

-- what is left to read gives the answer, and the rows so far are rows
abbrev pub invariant-loop-value : goal.invariant-loop-value
invariant-loop-value l =
    (rows_after [] (items_view l.values) ≡ rows_after l.rows.items (items_view (drop l.value-index l.values)))
    × (length l.rows.items ≡ l.value-index)
    × AreRows l.rows.items
