-- The names of the keys of a station file.
use Rattle.std.specs.Prelude.{ℕ, List, codes}
use Rattle.station_file.specs.declared.fault.StKey.{StKey}
use Rattle.station_file.specs.declared.fault.StKey.TheVariants.{Version, Station, Name, Lat, Lon, Height, Mask, Borders, Masks, Other, Dut1}

-- the name of a key
abbrev pub name_of : StKey → List ℕ
name_of Version = codes "version"
name_of Station = codes "station"
name_of Name = codes "name"
name_of Lat = codes "lat"
name_of Lon = codes "lon"
name_of Height = codes "height"
name_of Mask = codes "mask"
name_of Borders = codes "borders"
name_of Masks = codes "masks"
name_of Other = codes "other"
name_of Dut1 = codes "dut1_ms"
