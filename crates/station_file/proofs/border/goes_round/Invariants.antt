use Rattle.std.proofs.Common.{◌≡◌, drop}
use Rattle.decimals.specs.Decimal.{value}
use Rattle.station_file.specs.MaskTests.{goes_round}
use Rattle.station_file.proofs.border.goes_round.Given as goal

-- what is left to test gives the answer
abbrev pub invariant-loop-border : goal.invariant-loop-border
invariant-loop-border l = goes_round (value l.first) (value l.first) l.borders ≡ goes_round (value l.first) (value l.last) (drop l.border-index l.borders)
