-- The fields of a station: its name and its numbers.
use Rattle.std.specs.Prelude.{ℕ, ℤ, pos, neg_ℤ, Bool, ◌&&◌, nat_le, List, length, Option, Some, None, option_and_then, Result, Ok, Err}
use Rattle.exact.specs.Rational.{at_least_0, of_int, ◌-ℚ◌}
use Rattle.decimals.specs.Decimal.{DecimalRecord, value}
use Rattle.elements.specs.Ranges.{is_from_to}
use Rattle.decimals.specs.DecimalText.{decimal_value}
use Rattle.decimals.specs.declared.fault.NumFault.{NumFault}
use Rattle.toml.specs.Data.{Data, Members, as_str}
use Rattle.station_file.specs.declared.fault.StFault.{StFault}
use Rattle.station_file.specs.declared.fault.StFault.TheVariants.{Shape, Range}
use Rattle.station_file.specs.declared.fault.StKey.{StKey}
use Rattle.station_file.specs.declared.fault.StKey.TheVariants.{Name, Lat, Lon, Height}
use Rattle.station_file.specs.declared.field.Place.{Place}
use Rattle.elements.specs.Steps.{◌>>=◌}
use Rattle.station_file.specs.Steps.{or_fault, given}
use Rattle.station_file.specs.Tables.{string_at, value_at}

-- a decimal that was read, if one was
abbrev pub if_read : Result DecimalRecord NumFault → Option DecimalRecord
if_read (Ok d) = Some d
if_read (Err fault) = None

-- the decimal that a text writes, if it writes one
abbrev pub decimal_in : List ℕ → Option DecimalRecord
decimal_in text = if_read (decimal_value text)

-- the decimal that a string writes, if the value is such a string
abbrev pub decimal_of : Data → Option DecimalRecord
decimal_of d = option_and_then decimal_in (as_str d)

-- a decimal from one whole number to another, or else a fault
abbrev pub within : ℕ → StKey → ℤ → ℤ → DecimalRecord → Result DecimalRecord StFault
within index key low high d = given (is_from_to low high d) (Range index key) (Ok d)

-- the decimal at a key
abbrev pub decimal_at : StKey → Members → Option DecimalRecord
decimal_at key ms = option_and_then decimal_of (value_at key ms)

-- the decimal at a key of a station, from one whole number to another; or the first fault
abbrev pub number_at : ℕ → StKey → ℤ → ℤ → Members → Result DecimalRecord StFault
number_at index key low high ms = or_fault (Shape index key) (decimal_at key ms) >>= within index key low high

-- a name has 1 to 64 bytes
abbrev pub is_name : List ℕ → Bool
is_name name = nat_le 1 (length name) && nat_le (length name) 64

-- a name of 1 to 64 bytes, or else a fault
abbrev pub short_name : ℕ → List ℕ → Result (List ℕ) StFault
short_name index name = given (is_name name) (Range index Name) (Ok name)

-- the name of a station, or the first fault
abbrev pub name_at : ℕ → Members → Result (List ℕ) StFault
name_at index ms = or_fault (Shape index Name) (string_at Name ms) >>= short_name index

-- where a station is, or the first fault
abbrev pub place_at : ℕ → Members → Result Place StFault
place_at index ms = do
  lat ← number_at index Lat (neg_ℤ (pos 90)) (pos 90) ms
  lon ← number_at index Lon (neg_ℤ (pos 180)) (pos 360) ms
  height ← number_at index Height (neg_ℤ (pos 500)) (pos 9000) ms
  Ok (record { lat = lat; lon = lon; height = height })
