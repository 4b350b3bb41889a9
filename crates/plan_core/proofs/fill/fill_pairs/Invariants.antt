use Rattle.std.proofs.Common.{◌≡◌, length, take}
use Rattle.plan_core.specs.Filled.{ArePairsMade}
use Rattle.plan_core.proofs.fill.fill_pairs.Given as goal

-- the rows of the stations so far
abbrev pub invariant-loop-station : goal.invariant-loop-station
invariant-loop-station l = record {
  same : l.satellite ≡ record l.initial.satellite { pairs = l.satellite.pairs };
  len : length l.satellite.pairs ≡ length l.initial.satellite.pairs;
  made : ArePairsMade l.setting l.initial.satellite.set l.initial.pool l.pool (take l.station l.setting.stations.rows) (take l.station l.satellite.pairs);
}
