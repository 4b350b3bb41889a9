-- The values of keys that are numbers or instants.
use Rattle.std.specs.Prelude.{ℕ, ◌&&◌, not, Bool, List, Option, Some, None, ℤ, pos, neg_ℤ, Result, Ok, Err, if◌then◌else◌}
use Rattle.exact.specs.Rational.{ℚ, at_least_0, of_int, ◌-ℚ◌}
use Rattle.civil_time.specs.Utc.{utc_value}
use Rattle.civil_time.specs.declared.fault.TimeFault.{TimeFault}
use Rattle.decimals.specs.Decimal.{DecimalRecord, value}
use Rattle.elements.specs.Ranges.{at_most, below, is_from_to}
use Rattle.decimals.specs.DecimalText.{decimal_value}
use Rattle.decimals.specs.declared.fault.NumFault.{NumFault}
use Rattle.omm_kvn.specs.declared.fault.OmmFault.{OmmFault}
use Rattle.omm_kvn.specs.declared.fault.OmmFault.TheVariants as faults
use Rattle.omm_kvn.specs.declared.key.Key.{Key}
use Rattle.omm_kvn.specs.declared.key.Key.TheVariants.{Epoch, Motion, Ecc, Incl, Node, Argp, Anomaly, Number}
use Rattle.omm_kvn.specs.declared.orbit.Orbit.{Orbit}
use Rattle.omm_kvn.specs.Digits.{short_number}
use Rattle.omm_kvn.specs.Needed.{needed}
use Rattle.omm_kvn.specs.Places.{Places, bytes_at}
use Rattle.elements.specs.Steps.{◌>>=◌}
use Rattle.omm_kvn.specs.Units.{without_unit}

-- what was read, or else a fault of this key's value
abbrev pub instant_read : Key → Result ℤ TimeFault → Result ℤ OmmFault
instant_read key (Ok instant) = Ok instant
instant_read key (Err fault) = Err (faults.Value key)

abbrev pub decimal_read : Key → Result DecimalRecord NumFault → Result DecimalRecord OmmFault
decimal_read key (Ok number) = Ok number
decimal_read key (Err fault) = Err (faults.Value key)

abbrev pub number_read : Key → Option ℕ → Result ℕ OmmFault
number_read key (Some number) = Ok number
number_read key None = Err (faults.Value key)

-- a number for which this holds, or else a fault of this key's value
abbrev pub in_range : Key → Bool → DecimalRecord → Result DecimalRecord OmmFault
in_range key holds number = if holds then Ok number else Err (faults.Value key)

-- a mean motion is above 0 and below 100
abbrev pub is_motion : DecimalRecord → Bool
is_motion number = below (of_int (pos 0)) (value number) && below (value number) (of_int (pos 100))

-- an eccentricity is at least 0 and below 1
abbrev pub is_ecc : DecimalRecord → Bool
is_ecc number = at_most (of_int (pos 0)) (value number) && below (value number) (of_int (pos 1))

-- the epoch, which a key must give
unfoldable pub epoch_given : List ℕ → Places → Result ℤ OmmFault
epoch_given text places = do
  place ← needed Epoch (places Epoch)
  instant_read Epoch (utc_value (bytes_at text place))

-- the catalogue number, which a key must give
unfoldable pub number_given : List ℕ → Places → Result ℕ OmmFault
number_given text places = do
  place ← needed Number (places Number)
  number_read Number (short_number (bytes_at text place))

-- the decimal that a key must give, without its unit
unfoldable pub decimal_given : Key → List ℕ → Places → Result DecimalRecord OmmFault
decimal_given key text places = do
  place ← needed key (places key)
  decimal_read key (decimal_value (without_unit (bytes_at text place)))

-- a decimal for which this holds
unfoldable pub given_where : (DecimalRecord → Bool) → Key → List ℕ → Places → Result DecimalRecord OmmFault
given_where holds key text places = do
  number ← decimal_given key text places
  in_range key (holds number) number

-- the orbit: the mean motion, the eccentricity and the four angles
unfoldable pub orbit_given : List ℕ → Places → Result Orbit OmmFault
orbit_given text places = do
  motion ← given_where is_motion Motion text places
  ecc ← given_where is_ecc Ecc text places
  incl ← given_where (is_from_to (pos 0) (pos 180)) Incl text places
  node ← given_where (is_from_to (neg_ℤ (pos 360)) (pos 360)) Node text places
  argp ← given_where (is_from_to (neg_ℤ (pos 360)) (pos 360)) Argp text places
  anomaly ← given_where (is_from_to (neg_ℤ (pos 360)) (pos 360)) Anomaly text places
  Ok (record { motion = motion; ecc = ecc; incl = incl; node = node; argp = argp; anomaly = anomaly })
