use Rattle.std.proofs.Common.{ℕ, ◌<◌, slice_index_or}
use Rattle.station_view.specs.Judged.{AboveThroughout}
use Rattle.station_view.specs.declared.sector.EnclosedSector.{EnclosedSector}
use Rattle.station_view.proofs.judge.are_below_up.Given as goal

-- so it is in each sector so far
abbrev pub invariant-loop-sector : goal.invariant-loop-sector
invariant-loop-sector l = (k : ℕ) → k < l.sector-index → (d : EnclosedSector) → AboveThroughout l.lengths (slice_index_or l.sectors k d)
