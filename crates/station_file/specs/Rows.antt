-- What stations are: each is in its ranges, and their names differ. The plain record of one.
use Rattle.std.specs.Prelude.{◌≡◌, ℕ, ℤ, ◌≤◌, ◌≤ℤ◌, pos, neg_ℤ, List, length, map, All, AllPairs}
use Rattle.decimals.specs.Decimal.{value}
use Rattle.elements.specs.Elements.{IsFromTo}
use Rattle.sgp4_model.specs.Records.{SectorRecord, StationRecord}
use Rattle.station_file.specs.declared.row.StationRow.{StationRow}
use Rattle.station_file.specs.declared.sector.Sector.{Sector}
use Rattle.station_file.specs.Masks.{IsMask}
use Rattle.elements.specs.Offset.{IsOffset}

-- a name has 1 to 64 bytes
pub record IsName (name : List ℕ) : Type 0 where
  pub least : 1 ≤ length name
  pub most : length name ≤ 64

-- the ranges of a station: latitude and longitude in degrees, height in metres, and its mask
pub record IsStationRow (row : StationRow) : Type 0 where
  pub name : IsName row.name
  pub lat : IsFromTo (neg_ℤ (pos 90)) (pos 90) (value row.lat)
  pub lon : IsFromTo (neg_ℤ (pos 180)) (pos 360) (value row.lon)
  pub height : IsFromTo (neg_ℤ (pos 500)) (pos 9000) (value row.height)
  pub mask : IsMask row.mask

-- stations in their ranges, of which no two have one name
pub record AreRows (rows : List StationRow) : Type 0 where
  pub each : All IsStationRow rows
  pub names_differ : AllPairs (λ (a b : StationRow). ¬ (a.name ≡ b.name)) rows

-- one to 64 stations in their ranges, of which no two have one name
pub record IsStations (rows : List StationRow) : Type 0 where
  pub least : 1 ≤ length rows
  pub most : length rows ≤ 64
  pub rows_are : AreRows rows

-- stations, and the offset of UT1 from UTC in milliseconds
pub record StationsRecord : Type 0 where
  pub rows : List StationRow
  pub dut1 : ℤ

-- one to 64 stations in their ranges and of different names, and an offset in its range
pub record AreStations (stations : StationsRecord) : Type 0 where
  pub rows_are : IsStations stations.rows
  pub offset : IsOffset stations.dut1

-- the plain record of a sector
abbrev pub record_of_sector : Sector → SectorRecord
record_of_sector sector = record { border = value sector.border; floor = value sector.floor }

-- the plain record of a station: the numbers that the decimals stand for
abbrev pub record_of_station : StationRow → StationRecord
record_of_station row = record {
  lat = value row.lat;
  lon = value row.lon;
  height = value row.height;
  sectors = map record_of_sector row.mask;
}
