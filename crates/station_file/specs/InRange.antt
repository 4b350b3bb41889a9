-- What is in its ranges is read: each mask, each station of a new name, each number of stations from 1 to 64.
use Rattle.std.specs.Prelude.{◌≡◌, ℕ, ℤ, List, [], ◌∷◌, ◌++◌, map, Some, Ok}
use Rattle.decimals.specs.Decimal.{DecimalRecord}
use Rattle.toml.specs.Data.{Items, Members}
use Rattle.station_file.specs.declared.fault.StKey.TheVariants.{Name, Lat, Lon, Height, Dut1}
use Rattle.station_file.specs.declared.row.StationRow.{StationRow}
use Rattle.station_file.specs.declared.sector.Sector.{Sector}
use Rattle.station_file.specs.Fields.{decimal_at}
use Rattle.station_file.specs.MaskFields.{mask_at, sectors_value}
use Rattle.station_file.specs.Masks.{IsMask}
use Rattle.elements.specs.Offset.{IsOffset}
use Rattle.station_file.specs.Rows.{AreRows, IsStations}
use Rattle.station_file.specs.StationFile.{next_index, offset_at, row_of_fields, rows_after, rows_of}
use Rattle.station_file.specs.Tables.{integer_at, string_at}

-- the borders of sectors
abbrev pub borders_of : List Sector → List DecimalRecord
borders_of = map (λ (sector : Sector). sector.border)

-- the elevations of sectors
abbrev pub floors_of : List Sector → List DecimalRecord
floors_of = map (λ (sector : Sector). sector.floor)

-- the borders and elevations of a mask are read as it
abbrev pub MasksAreRead : Type 0
MasksAreRead = (index : ℕ) (sectors : List Sector) → IsMask sectors → sectors_value index (borders_of sectors) (floors_of sectors) ≡ Ok sectors

-- a table of this number gives the name, the numbers and the mask of a station
pub record Gives (index : ℕ) (table : Members) (row : StationRow) : Type 0 where
  pub name : string_at Name table ≡ Some row.name
  pub lat : decimal_at Lat table ≡ Some row.lat
  pub lon : decimal_at Lon table ≡ Some row.lon
  pub height : decimal_at Height table ≡ Some row.height
  pub mask : mask_at index table ≡ Ok row.mask

-- a station that may stand behind these ones is read of a table that gives it
abbrev pub RowsAreRead : Type 0
RowsAreRead = (earlier : List StationRow) (table : Members) (row : StationRow) → Gives (next_index earlier) table row → AreRows (earlier ++ row ∷ []) → row_of_fields earlier table ≡ Ok row

-- an offset in its range is read
abbrev pub OffsetsAreRead : Type 0
OffsetsAreRead = (table : Members) (dut1 : ℤ) → integer_at Dut1 table ≡ Some dut1 → IsOffset dut1 → offset_at table ≡ Ok dut1

-- stations that a file may have are those of an array of them
abbrev pub StationsAreRead : Type 0
StationsAreRead = (values : Items) (rows : List StationRow) → rows_after [] values ≡ Ok rows → IsStations rows → rows_of values ≡ Ok rows
