use Rattle.std.proofs.Common.{◌≡◌, ◌++◌, drop}
use Rattle.station_file.specs.MaskFields.{sectors_of}
use Rattle.station_file.proofs.mask_field.sectors_of.Given as goal

-- the sectors so far, and those that are left
abbrev pub invariant-loop-k : goal.invariant-loop-k
invariant-loop-k l = sectors_of l.borders l.floors ≡ l.sectors.items ++ sectors_of (drop l.k l.borders) (drop l.k l.floors)
