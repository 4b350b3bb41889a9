-- The plain records of a small sector and of a small station.
use Rattle.std.specs.Prelude.{◌≡◌, ℕ, pos, [], ◌∷◌}
use Rattle.decimals.specs.Decimal.{DecimalRecord}
use Rattle.exact.specs.Rational.{ℚ, of_int}
use Rattle.sgp4_model.specs.Records.{SectorRecord, StationRecord}
use Rattle.station_file.specs.declared.row.StationRow.{StationRow}
use Rattle.station_file.specs.declared.sector.Sector.{Sector}
use Rattle.station_file.specs.Rows.{record_of_sector, record_of_station}

-- a whole number as a decimal, and as an exact number
abbrev pub decimal : ℕ → DecimalRecord
decimal n = record { digits = pos n; places = 0 }

abbrev pub exact : ℕ → ℚ
exact n = of_int (pos n)

-- the numbers of a sector and of a station stand where they belong
pub record SmallRecords : Type 0 where
  pub sector : (s : Sector) → s.border ≡ decimal 4 → s.floor ≡ decimal 5 → record_of_sector s ≡ record { border = exact 4; floor = exact 5 }
  pub station :
      (row : StationRow) (s : Sector) → row.lat ≡ decimal 1 → row.lon ≡ decimal 2 → row.height ≡ decimal 3 → row.mask ≡ s ∷ [] →
      s.border ≡ decimal 4 → s.floor ≡ decimal 5 →
      record_of_station row ≡ record { lat = exact 1; lon = exact 2; height = exact 3; sectors = record { border = exact 4; floor = exact 5 } ∷ [] }
