use Rattle.std.proofs.Common.{◌≡◌, take}
use Rattle.std.specs.Prelude.{slice_get}
use Rattle.plan_command.specs.Parts.{pair_rows}
use Rattle.grid_command.specs.Tally.{tally_of}
use Rattle.grid_command.proofs.rows.tally_of_satellite.Given as goal

-- the counts of the rows so far
abbrev pub invariant-loop-station : goal.invariant-loop-station
invariant-loop-station l = l.tally ≡ tally_of (take l.station (pair_rows l.plan (slice_get l.plan.satellites l.sat)))
