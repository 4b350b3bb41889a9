use Rattle.std.proofs.Common.{ℕ, List, ◌<◌, ◌≤◌, slice_index_or}
use Rattle.fixed_iv.specs.Place.{Place}
use Rattle.lin_form.specs.Parts.{IsAmongFirst}
use Rattle.lin_form.specs.declared.lin.Lin.{Lin}
use Rattle.station_view.specs.Parts.{AboveFloor, BelowFloor, InSector}
use Rattle.station_view.specs.declared.sector.EnclosedSector.{EnclosedSector}
use Rattle.station_view.specs.declared.vector.Lengths.{Lengths}
use Rattle.station_view.proofs.parts.all_parts.Given as goal

-- so it is in each sector so far
pub record SoFar (lengths : Lengths Lin) (sectors : List EnclosedSector) (index parts yes no : ℕ) : Type 0 where
  pub most : (yes ≤ parts) × (no ≤ parts)
  pub above : (h : Place) → IsAmongFirst h yes parts → (k : ℕ) → k < index → (d : EnclosedSector) → InSector AboveFloor lengths h (slice_index_or sectors k d)
  pub below : (h : Place) → IsAmongFirst h no parts → (k : ℕ) → k < index → (d : EnclosedSector) → InSector BelowFloor lengths h (slice_index_or sectors k d)

abbrev pub invariant-loop-sector : goal.invariant-loop-sector
invariant-loop-sector l = SoFar l.lengths l.sectors l.sector-index l.parts l.all.yes l.all.no
