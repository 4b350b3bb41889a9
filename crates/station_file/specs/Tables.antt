-- What a TOML table of a station file holds: its keys, and the values at them.
use Rattle.std.specs.Prelude.{ℕ, ℤ, pos, Bool, true, ◌&&◌, ◌||◌, not, if◌then◌else◌, List, codes, Option, Some, None, option_and_then, is_some}
use Rattle.std.specs.Ordering.{int_eq}
use Rattle.std.specs.Str.{bytes_eq}
use Rattle.toml.specs.Data.{Data, Items, Members, no_members, member, get_member, as_str, as_array, as_integer}
use Rattle.station_file.specs.declared.fault.StKey.{StKey}
use Rattle.station_file.specs.declared.fault.StKey.TheVariants.{Mask, Borders, Masks, Version as VersionKey}
use Rattle.station_file.specs.declared.version.Version.{Version}
use Rattle.station_file.specs.declared.version.Version.TheVariants.{First, Second}
use Rattle.station_file.specs.Keys.{name_of}

-- each key of a table passes a test
abbrev pub has_only : (List ℕ → Bool) → Members → Bool
has_only test no_members = true
has_only test (member key d ms) = test key && has_only test ms

-- the keys of the top table in version 1, and in version 2
abbrev pub is_first_key : List ℕ → Bool
is_first_key key = bytes_eq key (codes "version") || bytes_eq key (codes "station")

abbrev pub is_second_key : List ℕ → Bool
is_second_key key = is_first_key key || bytes_eq key (codes "dut1_ms")

-- the keys of the top table in a version
abbrev pub has_keys_of : Version → Members → Bool
has_keys_of First = has_only is_first_key
has_keys_of Second = has_only is_second_key

-- the keys of a station
abbrev pub is_station_key : List ℕ → Bool
is_station_key key =
    bytes_eq key (codes "name") || bytes_eq key (codes "lat") || bytes_eq key (codes "lon") || bytes_eq key (codes "height") || bytes_eq key (codes "mask") || bytes_eq key (codes "borders") || bytes_eq key (codes "masks")

-- the value at a key
abbrev pub value_at : StKey → Members → Option Data
value_at key ms = get_member (name_of key) ms

-- the string at a key
abbrev pub string_at : StKey → Members → Option (List ℕ)
string_at key ms = option_and_then as_str (value_at key ms)

-- the array at a key
abbrev pub array_at : StKey → Members → Option Items
array_at key ms = option_and_then as_array (value_at key ms)

-- there is a value at a key
abbrev pub has_key : StKey → Members → Bool
has_key key ms = is_some (value_at key ms)

-- the keys of a station are known, and it has not both `mask` and one of `borders` and `masks`
abbrev pub has_station_keys : Members → Bool
has_station_keys ms = has_only is_station_key ms && not (has_key Mask ms && (has_key Borders ms || has_key Masks ms))

-- the integer at a key
abbrev pub integer_at : StKey → Members → Option ℤ
integer_at key ms = option_and_then as_integer (value_at key ms)

-- the version of this number: 1 or 2
abbrev pub version_of : ℤ → Option Version
version_of z = if int_eq z (pos 1) then Some First else (if int_eq z (pos 2) then Some Second else None)

-- the version that the top table names, if it is one of the two
abbrev pub version_at : Members → Option Version
version_at ms = option_and_then version_of (integer_at VersionKey ms)
