-- Laws of elevation masks, as public functions promise them.
use Rattle.std.specs.Prelude.{List, [], ◌∷◌, ◌⊎◌}
use Rattle.exact.specs.Rational.{ℚ, ◌+ℚ◌, zero_ℚ, ◌≤ℚ◌, ◌<ℚ◌}
use Rattle.sgp4_model.specs.Angle.{IsPi, Pair}
use Rattle.sgp4_model.specs.Mask.{IsAbove, IsBelow, SomeSector}
use Rattle.sgp4_model.specs.Numerals.{whole}
use Rattle.sgp4_model.specs.Records.{SectorRecord}
use Rattle.sgp4_model.specs.Sectors.{AreMaskPairs, HoldsDirection, SectorPairs, SectorSides, past, sides_of}
use Rattle.sgp4_model.specs.Sight.{SightRecord}

-- a fact holds of the pair of some border
abbrev pub SomeBorder : (Pair → Type 0) → List SectorPairs → Type 0
SomeBorder fact [] = ⊥
SomeBorder fact (p ∷ pairs) = fact p.border ⊎ SomeBorder fact pairs

-- a border follows another: it is above it, by at most 90 degrees
pub record Follows (before border : ℚ) : Type 0 where
  pub above : before <ℚ border
  pub near : border ≤ℚ before +ℚ whole 90

-- from this border on each one is below 360 degrees and follows the one before it, round to the first after a full turn
abbrev pub GoRound : (first border : ℚ) → List SectorRecord → Type 0
GoRound first border [] = Follows border (first +ℚ whole 360)
GoRound first border (sector ∷ sectors) = (sector.border <ℚ whole 360) × (Follows border sector.border × GoRound first sector.border sectors)

-- the borders go round the horizon, from the first, which is at least 0
abbrev pub AreRound : List SectorRecord → Type 0
AreRound [] = ⊥
AreRound (sector ∷ sectors) = (zero_ℚ ≤ℚ sector.border) × ((sector.border <ℚ whole 360) × GoRound sector.border sector.border sectors)

-- some sector of a mask whose borders go round holds each direction, whatever pairs its borders have
abbrev pub SomeSectorHolds : Type 0
SomeSectorHolds =
    (pi : ℚ) (sectors : List SectorRecord) (pairs : List SectorPairs) (v : SightRecord) → IsPi pi → AreRound sectors → AreMaskPairs pi sectors pairs →
    SomeSector (λ sector. HoldsDirection sector v) (sides_of pairs)

-- where a direction lies past some border, or on it, and short of some border, or on it, a sector holds it
abbrev pub SomeSectorHoldsBetween : Type 0
SomeSectorHoldsBetween =
    (pairs : List SectorPairs) (v : SightRecord) → SomeBorder (λ border. zero_ℚ ≤ℚ past border v) pairs → SomeBorder (λ border. past border v ≤ℚ zero_ℚ) pairs →
    SomeSector (λ sector. HoldsDirection sector v) (sides_of pairs)

-- a direction that a sector holds is not both above and below
abbrev pub NoneIsBoth : Type 0
NoneIsBoth = (sectors : List SectorSides) (v : SightRecord) → SomeSector (λ sector. HoldsDirection sector v) sectors → IsAbove sectors v → IsBelow sectors v → ⊥
