-- What an elevation mask is: sectors that go round the horizon, in degrees from north over east.
use Rattle.std.specs.Prelude.{ℕ, ◌≤◌, pos, neg_ℤ, List, [], ◌∷◌, length, All}
use Rattle.exact.specs.Rational.{ℚ, of_int, ◌+ℚ◌, ◌≤ℚ◌, ◌<ℚ◌}
use Rattle.decimals.specs.Decimal.{DecimalRecord, value}
use Rattle.elements.specs.Elements.{IsFromTo}
use Rattle.station_file.specs.declared.sector.Sector.{Sector}

-- so many degrees
abbrev pub degrees : ℕ → ℚ
degrees n = of_int (pos n)

-- an azimuth is at least 0 and below 360 degrees
pub record IsAzimuth (x : ℚ) : Type 0 where
  pub least : degrees 0 ≤ℚ x
  pub most : x <ℚ degrees 360

-- a border follows another: it is above it, by at most 90 degrees
pub record Follows (before border : ℚ) : Type 0 where
  pub above : before <ℚ border
  pub near : border ≤ℚ before +ℚ degrees 90

-- from this border on each one follows the one before it, round to the first border after a full turn
abbrev pub GoesRound : (first border : ℚ) → List Sector → Type 0
GoesRound first border [] = Follows border (first +ℚ degrees 360)
GoesRound first border (sector ∷ sectors) = Follows border (value sector.border) × GoesRound first (value sector.border) sectors

-- the sectors go round the horizon
abbrev pub IsRound : List Sector → Type 0
IsRound [] = ⊥
IsRound (sector ∷ sectors) = GoesRound (value sector.border) (value sector.border) sectors

-- 4 to 360 sectors, each of which begins at an azimuth and has an elevation from -90 to 90 degrees, go round the horizon
pub record IsMask (sectors : List Sector) : Type 0 where
  pub least : 4 ≤ length sectors
  pub most : length sectors ≤ 360
  pub azimuths : All (λ sector. IsAzimuth (value sector.border)) sectors
  pub floors : All (λ sector. IsFromTo (neg_ℤ (pos 90)) (pos 90) (value sector.floor)) sectors
  pub round : IsRound sectors

-- the whole number as a decimal
abbrev pub whole : ℕ → DecimalRecord
whole n = record { digits = pos n; places = 0 }

-- the sector that begins at a whole number of degrees
abbrev pub sector_at : ℕ → DecimalRecord → Sector
sector_at border floor = record { border = whole border; floor = floor }

-- four sectors of one elevation
abbrev pub flat_sectors : DecimalRecord → List Sector
flat_sectors floor = sector_at 0 floor ∷ sector_at 90 floor ∷ sector_at 180 floor ∷ sector_at 270 floor ∷ []
