-- Sectors of an elevation mask: the pairs of their borders and floors, and which directions they hold and touch.
use Rattle.std.specs.Prelude.{List, [], ◌∷◌, ⊤}
use Rattle.exact.specs.Rational.{ℚ, ◌-ℚ◌, ◌*ℚ◌, neg_ℚ, zero_ℚ, ◌≤ℚ◌}
use Rattle.sgp4_model.specs.Angle.{Pair}
use Rattle.sgp4_model.specs.Degrees.{IsPairOfDegrees}
use Rattle.sgp4_model.specs.Records.{SectorRecord}
use Rattle.sgp4_model.specs.Sight.{SightRecord}

-- the pair of the azimuth at which a sector begins, clockwise from north, and that of its floor
pub record SectorPairs : Type 0 where
  pub border : Pair
  pub floor : Pair

-- one pair for each border and each floor of a mask
abbrev pub AreMaskPairs : ℚ → List SectorRecord → List SectorPairs → Type 0
AreMaskPairs pi [] [] = ⊤
AreMaskPairs pi (sector ∷ sectors) (p ∷ pairs) =
    (IsPairOfDegrees pi sector.border p.border × IsPairOfDegrees pi sector.floor p.floor) × AreMaskPairs pi sectors pairs
AreMaskPairs pi _ _ = ⊥

-- a sector in a solution: the pairs of its two borders, the second clockwise of the first, and the sine of its floor
pub record SectorSides : Type 0 where
  pub from : Pair
  pub to : Pair
  pub floor : ℚ

-- where a sector ends: at the next border, or at the first one
abbrev pub end_of : Pair → List SectorPairs → Pair
end_of first [] = first
end_of first (p ∷ pairs) = p.border

-- the sectors of these pairs, of which the last ends at a first border
abbrev pub sides_to : Pair → List SectorPairs → List SectorSides
sides_to first [] = []
sides_to first (p ∷ pairs) = record { from = p.border; to = end_of first pairs; floor = p.floor.sine } ∷ sides_to first pairs

-- the sectors of a mask's pairs
abbrev pub sides_of : List SectorPairs → List SectorSides
sides_of [] = []
sides_of (p ∷ pairs) = sides_to p.border (p ∷ pairs)

-- how far a direction lies clockwise of a border, up to half a turn: east cos z - north sin z
abbrev pub past : Pair → SightRecord → ℚ
past border v = v.east *ℚ border.cosine -ℚ v.north *ℚ border.sine

-- and how far on its other side: north sin z - east cos z
abbrev pub short_of : Pair → SightRecord → ℚ
short_of border v = v.north *ℚ border.sine -ℚ v.east *ℚ border.cosine

-- the sector holds the direction
pub record HoldsDirection (sector : SectorSides) (v : SightRecord) : Type 0 where
  pub from : zero_ℚ ≤ℚ past sector.from v
  pub to : zero_ℚ ≤ℚ short_of sector.to v

-- the sector touches the direction, by b
pub record TouchesBy (b : ℚ) (sector : SectorSides) (v : SightRecord) : Type 0 where
  pub from : neg_ℚ b ≤ℚ past sector.from v
  pub to : neg_ℚ b ≤ℚ short_of sector.to v
