-- The satellites, the stations and the window of the command `grid`: numbers by formulas, in their shortest decimals.
use Rattle.std.specs.Prelude.{ℕ, zero, suc, ◌+◌, ◌-◌, ◌*◌, ◌%◌, ℤ, pos, List, [], ◌∷◌, ◌++◌, codes}
use Rattle.catalogue.specs.declared.entry.Entry.{Entry}
use Rattle.civil_time.specs.Scale.{start_of_day}
use Rattle.decimals.specs.Normal.{normal}
use Rattle.elements.specs.Elements.{ElementsRecord}
use Rattle.elements.specs.Window.{WindowRecord}
use Rattle.jiff_core.specs.Calendar.{days_from_civil}
use Rattle.plan_core.specs.Certificate.{SettingRecord}
use Rattle.station_file.specs.Masks.{flat_sectors, whole}
use Rattle.station_file.specs.Rows.{StationsRecord}
use Rattle.station_file.specs.declared.row.StationRow.{StationRow}

-- the instant 2000-06-28T00:00:00
abbrev pub midnight : ℤ
midnight = start_of_day (days_from_civil (pos 2000) 6 28)

-- the element set of satellite k, counted from 0: the mean motion is 15 - k/1000, the eccentricity (k mod 200)/10000
abbrev pub set_of : ℕ → ElementsRecord
set_of k = record {
  number = 90_000 + k;
  epoch = midnight;
  motion = normal (pos (15_000 - k)) 3;
  ecc = normal (pos (k % 200)) 4;
  incl = whole (7 * k % 176);
  node = whole (37 * k % 360);
  argp = whole (91 * k % 360);
  anomaly = whole (137 * k % 360);
  bstar = normal (pos 1) 4;
}

-- satellite k, which has no name
abbrev pub satellite : ℕ → Entry
satellite k = record { elements = set_of k; name = codes "-" }

-- the first so many satellites
abbrev pub satellites : ℕ → List Entry
satellites zero = []
satellites (suc k) = satellites k ++ satellite k ∷ []

-- the station at the crossing of the equator and the prime meridian, which sees what is above 10 degrees
abbrev pub equator : StationRow
equator = record {
  name = codes "Equator";
  lat = whole 0;
  lon = whole 0;
  height = whole 0;
  mask = flat_sectors (whole 10);
}

-- the station at 67.9 degrees north and 21 degrees east, which sees what is above 5 degrees
abbrev pub north : StationRow
north = record {
  name = codes "North";
  lat = normal (pos 679) 1;
  lon = whole 21;
  height = whole 0;
  mask = flat_sectors (whole 5);
}

-- both, with no offset of UT1 from UTC
abbrev pub stations : StationsRecord
stations = record { rows = equator ∷ north ∷ []; dut1 = pos 0 }

-- an hour from midnight, with a resolution of 10 seconds
abbrev pub hour : WindowRecord
hour = record { start = midnight; ticks = 36_000_000; resolution = 100_000 }

-- what the rows are judged by
abbrev pub setting : SettingRecord
setting = record { stations = stations; window = hour }
