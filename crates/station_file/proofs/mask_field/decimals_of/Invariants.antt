use Rattle.std.proofs.Common.{◌≡◌, [], drop}
use Rattle.toml.specs.View.{items_view}
use Rattle.station_file.specs.MaskFields.{decimals_after}
use Rattle.station_file.proofs.mask_field.decimals_of.Given as goal

-- what is left to read gives the answer
abbrev pub invariant-loop-value : goal.invariant-loop-value
invariant-loop-value l = decimals_after l.fault [] (items_view l.values) ≡ decimals_after l.fault l.numbers.items (items_view (drop l.value-index l.values))
