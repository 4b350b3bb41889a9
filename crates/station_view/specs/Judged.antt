-- What the verdict on bounds and a mask says.
use Rattle.std.specs.Prelude.{All, List}
use Rattle.exact.specs.Rational.{ℚ, zero_ℚ, ◌/ℚ◌, ◌<ℚ◌}
use Rattle.fixed_iv.specs.declared.iv.Iv.{Iv}
use Rattle.sgp4_model.specs.Angle.{IsPi}
use Rattle.sgp4_model.specs.Mask.{GrazesBy, TouchesHigh, TouchesLow}
use Rattle.sgp4_model.specs.Sectors.{AreMaskPairs, HoldsDirection, SectorPairs, SectorSides, TouchesBy, sides_of}
use Rattle.sgp4_model.specs.Sight.{SightRecord}
use Rattle.station_view.specs.Bounds.{AreNarrowWith, HoldLengths, HoldSides, HoldSight, IsNarrowWith, LiesOutside}
use Rattle.station_view.specs.Lengths.{at_range}
use Rattle.station_view.specs.Masks.{records_of}
use Rattle.station_view.specs.declared.sector.EnclosedSector.{EnclosedSector}
use Rattle.station_view.specs.declared.vector.Lengths.{Lengths}
use Rattle.station_view.specs.declared.vector.Sight.{Sight}

-- ---- directions
-- a fact holds of every direction in the bounds, with all pairs that the mask's borders and floors can have
abbrev pub EveryDirection : (List SectorSides → SightRecord → Type 0) → Sight Iv → List EnclosedSector → Type 0
EveryDirection fact sight mask =
    (pi : ℚ) (pairs : List SectorPairs) (v : SightRecord) → IsPi pi → AreMaskPairs pi (records_of mask) pairs → HoldSight sight v →
    fact (sides_of pairs) v

-- the bounds are narrow by b with a mask
abbrev pub IsNarrowSight : ℚ → Sight Iv → List EnclosedSector → Type 0
IsNarrowSight b sight mask = All (IsNarrowWith b sight) mask

-- where they are, every direction grazes by b
abbrev pub GrazesWhereNarrow : Sight Iv → List EnclosedSector → Type 0
GrazesWhereNarrow sight mask = (b : ℚ) → IsNarrowSight b sight mask → EveryDirection (GrazesBy b) sight mask

-- a vector with these bounds surely lies outside every sector
abbrev pub LiesInNone : Iv → Iv → List EnclosedSector → Type 0
LiesInNone east north mask = All (LiesOutside east north) mask

-- ---- lengths
-- a fact holds of every direction at every range above 0 whose lengths lie in the bounds, with all pairs that the mask's
-- borders and floors can have
abbrev pub EveryLengths : (ℚ → List SectorSides → SightRecord → Type 0) → Lengths Iv → List EnclosedSector → Type 0
EveryLengths fact lengths mask =
    (pi : ℚ) (pairs : List SectorPairs) (v : SightRecord) (range : ℚ) → IsPi pi → AreMaskPairs pi (records_of mask) pairs →
    zero_ℚ <ℚ range → HoldLengths lengths (at_range v range) → fact range (sides_of pairs) v

-- the bounds of lengths are narrow by b with a mask
abbrev pub AreNarrowLengths : ℚ → Lengths Iv → List EnclosedSector → Type 0
AreNarrowLengths b lengths mask = All (AreNarrowWith b lengths) mask

-- where they are, every direction grazes by the length b, as it is seen at its range
abbrev pub GrazesWithinLength : Lengths Iv → List EnclosedSector → Type 0
GrazesWithinLength lengths mask = (b : ℚ) → AreNarrowLengths b lengths mask → EveryLengths (λ range. GrazesBy (b /ℚ range)) lengths mask

-- a fact holds of a sector and every direction and range whose lengths lie in the bounds, with all pairs in the sector's
-- enclosures
abbrev pub Throughout : (SectorSides → SightRecord → ℚ → Type 0) → Lengths Iv → EnclosedSector → Type 0
Throughout fact lengths e =
    (s : SectorSides) (v : SightRecord) (range : ℚ) → HoldSides e s → zero_ℚ <ℚ range → HoldLengths lengths (at_range v range) →
    fact s v range

-- `up` exceeds the floor's sine wherever the sector holds the direction
abbrev pub AboveThroughout : Lengths Iv → EnclosedSector → Type 0
AboveThroughout = Throughout (λ s v range. HoldsDirection s v → s.floor <ℚ v.up)

-- `up` is less than the floor's sine there
abbrev pub BelowThroughout : Lengths Iv → EnclosedSector → Type 0
BelowThroughout = Throughout (λ s v range. HoldsDirection s v → v.up <ℚ s.floor)

-- the sector nowhere holds the direction
abbrev pub HoldsNowhere : Lengths Iv → EnclosedSector → Type 0
HoldsNowhere = Throughout (λ s v range. ¬ HoldsDirection s v)

-- the sector may hold the direction: no cross product lies below 0; and where the bounds are narrow by b, the sector is
-- touched throughout
pub record MayHold (lengths : Lengths Iv) (e : EnclosedSector) : Type 0 where
  pub reaches : ¬ LiesOutside lengths.east lengths.north e
  pub touches : (b : ℚ) → AreNarrowWith b lengths e → Throughout (λ s v range. TouchesBy (b /ℚ range) s v) lengths e

-- and where the bounds are narrow by b, the sector grazes throughout, from below or from above
pub record IsLow (lengths : Lengths Iv) (e : EnclosedSector) : Type 0 where
  pub reaches : ¬ LiesOutside lengths.east lengths.north e
  pub low : (b : ℚ) → AreNarrowWith b lengths e → Throughout (λ s v range. TouchesLow (b /ℚ range) v s) lengths e

pub record IsHigh (lengths : Lengths Iv) (e : EnclosedSector) : Type 0 where
  pub reaches : ¬ LiesOutside lengths.east lengths.north e
  pub high : (b : ℚ) → AreNarrowWith b lengths e → Throughout (λ s v range. TouchesHigh (b /ℚ range) v s) lengths e
