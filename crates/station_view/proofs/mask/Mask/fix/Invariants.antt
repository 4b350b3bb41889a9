use Rattle.std.proofs.Common.{◌≡◌, ◌++◌, drop, map}
use Rattle.station_view.specs.Masks.{stretch_of, stretches}
use Rattle.station_view.proofs.mask.Mask.fix.Given as goal

-- the sectors so far, and those that are left
abbrev pub invariant-loop-k : goal.invariant-loop-k
invariant-loop-k l = stretches l.row ≡ map stretch_of l.sectors.items ++ drop l.k (stretches l.row)
