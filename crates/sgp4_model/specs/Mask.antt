-- When a direction is above an elevation mask, below it, or grazes it. On a border two sectors are held, and both count.
use Rattle.std.specs.Prelude.{List, [], ◌∷◌, ◌⊎◌, ⊤}
use Rattle.exact.specs.Rational.{ℚ, ◌+ℚ◌, ◌≤ℚ◌, ◌<ℚ◌}
use Rattle.sgp4_model.specs.Sectors.{HoldsDirection, SectorSides, TouchesBy}
use Rattle.sgp4_model.specs.Sight.{SightRecord}

-- a fact holds of every sector
abbrev pub EverySector : (SectorSides → Type 0) → List SectorSides → Type 0
EverySector fact [] = ⊤
EverySector fact (sector ∷ sectors) = fact sector × EverySector fact sectors

-- a fact holds of some sector
abbrev pub SomeSector : (SectorSides → Type 0) → List SectorSides → Type 0
SomeSector fact [] = ⊥
SomeSector fact (sector ∷ sectors) = fact sector ⊎ SomeSector fact sectors

-- above: `up` exceeds the floor's sine in every sector that holds the direction
abbrev pub IsAbove : List SectorSides → SightRecord → Type 0
IsAbove sectors v = EverySector (λ sector. HoldsDirection sector v → sector.floor <ℚ v.up) sectors

-- below: `up` is less than the floor's sine in every sector that holds the direction
abbrev pub IsBelow : List SectorSides → SightRecord → Type 0
IsBelow sectors v = EverySector (λ sector. HoldsDirection sector v → v.up <ℚ sector.floor) sectors

-- a sector that is touched by b, whose floor's sine `up` exceeds by b at most
pub record TouchesLow (b : ℚ) (v : SightRecord) (sector : SectorSides) : Type 0 where
  pub touches : TouchesBy b sector v
  pub up : v.up ≤ℚ sector.floor +ℚ b

-- a sector that is touched by b, whose floor's sine exceeds `up` by b at most
pub record TouchesHigh (b : ℚ) (v : SightRecord) (sector : SectorSides) : Type 0 where
  pub touches : TouchesBy b sector v
  pub up : sector.floor ≤ℚ v.up +ℚ b

-- grazes by b: there is a sector of the one kind, and one, perhaps another, of the other
pub record GrazesBy (b : ℚ) (sectors : List SectorSides) (v : SightRecord) : Type 0 where
  pub low : SomeSector (TouchesLow b v) sectors
  pub high : SomeSector (TouchesHigh b v) sectors
