-- What holds of directions whose lengths are covered by slope enclosures at a place of a cell.
use Rattle.std.specs.Prelude.{List}
use Rattle.exact.specs.Rational.{ℚ, zero_ℚ, ◌<ℚ◌}
use Rattle.fixed_iv.specs.Place.{Place}
use Rattle.lin_form.specs.Covered.{IsCovered}
use Rattle.lin_form.specs.declared.lin.Lin.{Lin}
use Rattle.sgp4_model.specs.Angle.{IsPi}
use Rattle.sgp4_model.specs.Sectors.{AreMaskPairs, HoldsDirection, SectorPairs, SectorSides, sides_of}
use Rattle.sgp4_model.specs.Sight.{SightRecord}
use Rattle.station_view.specs.Bounds.{HoldSides}
use Rattle.station_view.specs.Lengths.{LengthsRecord, at_range}
use Rattle.station_view.specs.Masks.{records_of}
use Rattle.station_view.specs.declared.sector.EnclosedSector.{EnclosedSector}
use Rattle.station_view.specs.declared.vector.Lengths.{Lengths}

-- each length is covered at the place
pub record CoverLengths (lengths : Lengths Lin) (h : Place) (l : LengthsRecord) : Type 0 where
  pub east : IsCovered lengths.east h l.east
  pub north : IsCovered lengths.north h l.north
  pub up : IsCovered lengths.up h l.up
  pub range : IsCovered lengths.range h l.range

-- a fact holds of every direction at every range above 0 whose lengths are covered at the place, with all pairs that the mask's
-- borders and floors can have
abbrev pub EveryCovered : (List SectorSides → SightRecord → Type 0) → Lengths Lin → List EnclosedSector → Place → Type 0
EveryCovered fact lengths mask h =
    (pi : ℚ) (pairs : List SectorPairs) (v : SightRecord) (range : ℚ) → IsPi pi → AreMaskPairs pi (records_of mask) pairs →
    zero_ℚ <ℚ range → CoverLengths lengths h (at_range v range) → fact (sides_of pairs) v

-- and of a sector, with all pairs in its enclosures
abbrev pub InSector : (SectorSides → SightRecord → Type 0) → Lengths Lin → Place → EnclosedSector → Type 0
InSector fact lengths h e =
    (s : SectorSides) (v : SightRecord) (range : ℚ) → HoldSides e s → zero_ℚ <ℚ range → CoverLengths lengths h (at_range v range) →
    fact s v

-- above the sector, below it, and outside of it
abbrev pub AboveFloor : SectorSides → SightRecord → Type 0
AboveFloor s v = HoldsDirection s v → s.floor <ℚ v.up

abbrev pub BelowFloor : SectorSides → SightRecord → Type 0
BelowFloor s v = HoldsDirection s v → v.up <ℚ s.floor

abbrev pub IsElsewhere : SectorSides → SightRecord → Type 0
IsElsewhere s v = ¬ HoldsDirection s v
