-- What a station file says: its stations, or its first fault.
use Rattle.std.specs.Prelude.{ℕ, ℤ, pos, unsigned_abs, ◌+◌, Bool, not, nat_le, List, [], ◌∷◌, ◌++◌, length, Option, Some, None, Result, Ok, Err}
use Rattle.std.specs.List.{list_any}
use Rattle.std.specs.Str.{bytes_eq, is_utf8}
use Rattle.toml.specs.Data.{Data, Items, no_items, item, Members, as_table, as_array}
use Rattle.toml.specs.Parse.{parse_document}
use Rattle.station_file.specs.declared.fault.StFault.{StFault}
use Rattle.station_file.specs.declared.fault.StFault.TheVariants.{NotUtf8, NotToml, Shape, Empty, TooMany, Range, Twice}
use Rattle.station_file.specs.declared.fault.StKey.TheVariants.{Version as VersionKey, Station, Other, Dut1}
use Rattle.station_file.specs.declared.field.Place.{Place}
use Rattle.station_file.specs.declared.row.StationRow.{StationRow}
use Rattle.station_file.specs.declared.version.Version.{Version}
use Rattle.station_file.specs.declared.version.Version.TheVariants.{First, Second}
use Rattle.station_file.specs.Fields.{name_at, place_at}
use Rattle.station_file.specs.MaskFields.{mask_at}
use Rattle.station_file.specs.Rows.{StationsRecord}
use Rattle.elements.specs.Steps.{◌>>=◌}
use Rattle.station_file.specs.Steps.{or_fault, given}
use Rattle.station_file.specs.Tables.{has_keys_of, has_station_keys, integer_at, value_at, version_at}

-- one of these stations has the name
abbrev pub is_taken : List StationRow → List ℕ → Bool
is_taken earlier name = list_any (λ (row : StationRow). bytes_eq row.name name) earlier

-- the number of the station after these
abbrev pub next_index : List StationRow → ℕ
next_index earlier = length earlier + 1

-- the station of a name, a place and the mask of its table, where these stand before it; or the first fault
abbrev pub row_of_parts : List StationRow → List ℕ → Place → Members → Result StationRow StFault
row_of_parts earlier name place ms = given (not (is_taken earlier name)) (Twice (next_index earlier)) (do
  mask ← mask_at (next_index earlier) ms
  Ok (record { name = name; lat = place.lat; lon = place.lon; height = place.height; mask = mask }))

-- the station of a table whose keys are known, or its first fault
abbrev pub row_of_fields : List StationRow → Members → Result StationRow StFault
row_of_fields earlier ms = do
  name ← name_at (next_index earlier) ms
  place ← place_at (next_index earlier) ms
  row_of_parts earlier name place ms

-- the station of a table
abbrev pub row_of_table : List StationRow → Members → Result StationRow StFault
row_of_table earlier ms = given (has_station_keys ms) (Shape (next_index earlier) Other) (row_of_fields earlier ms)

-- the station of a value
abbrev pub row_of : List StationRow → Data → Result StationRow StFault
row_of earlier d = or_fault (Shape (next_index earlier) Station) (as_table d) >>= row_of_table earlier

-- these stations and those of the values after them, or the first fault
abbrev pub rows_after : List StationRow → Items → Result (List StationRow) StFault
rows_after earlier no_items = Ok earlier
rows_after earlier (item d ds) = row_of earlier d >>= (λ row. rows_after (earlier ++ row ∷ []) ds)

-- how many items there are
abbrev pub count : Items → ℕ
count no_items = 0
count (item d ds) = count ds + 1

-- the stations of an array, of 1 to 64
abbrev pub rows_of : Items → Result (List StationRow) StFault
rows_of ds = given (nat_le 1 (count ds)) Empty (given (nat_le (count ds) 64) TooMany (rows_after [] ds))

-- the stations of the value at the key `station`
abbrev pub rows_at : Option Data → Result (List StationRow) StFault
rows_at None = Err Empty
rows_at (Some d) = or_fault (Shape 0 Station) (as_array d) >>= rows_of

-- an offset from -900 to 900 milliseconds
abbrev pub is_offset : ℤ → Bool
is_offset z = nat_le (unsigned_abs z) 900

-- the offset of UT1 from UTC that the top table names: an integer in its range
abbrev pub offset_at : Members → Result ℤ StFault
offset_at ms = or_fault (Shape 0 Dut1) (integer_at Dut1 ms) >>= (λ z. given (is_offset z) (Range 0 Dut1) (Ok z))

-- the offset in a version: the first stands for 0
abbrev pub offset_of : Version → Members → Result ℤ StFault
offset_of First ms = Ok (pos 0)
offset_of Second ms = offset_at ms

-- the stations and the offset of the top table in a version
abbrev pub stations_in : Version → Members → Result StationsRecord StFault
stations_in version ms = given (has_keys_of version ms) (Shape 0 Other) (do
  dut1 ← offset_of version ms
  rows ← rows_at (value_at Station ms)
  Ok (record { rows = rows; dut1 = dut1 }))

-- the stations and the offset of the top table
abbrev pub stations_of : Members → Result StationsRecord StFault
stations_of ms = do
  version ← or_fault (Shape 0 VersionKey) (version_at ms)
  stations_in version ms

-- the stations and the offset of a text
abbrev pub text_value : List ℕ → Result StationsRecord StFault
text_value text = or_fault NotToml (parse_document text) >>= stations_of

-- the stations of a file and its offset of UT1 from UTC, or its first fault
unfoldable pub station_value : List ℕ → Result StationsRecord StFault
station_value bytes = given (is_utf8 bytes) NotUtf8 (text_value bytes)
