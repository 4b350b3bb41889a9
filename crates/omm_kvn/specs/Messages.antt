-- The element set that a message writes, or its first fault: CCSDS 502.0, orbit mean-elements messages in keyword-value notation.
use Rattle.std.specs.Prelude.{ℕ, List, ℤ, unwrap_or, Result, Ok}
use Rattle.elements.specs.Elements.{ElementsRecord}
use Rattle.decimals.specs.Decimal.{DecimalRecord}
use Rattle.omm_kvn.specs.declared.fault.OmmFault.{OmmFault}
use Rattle.omm_kvn.specs.declared.key.Key.TheVariants.{Name, EphemerisType, Bstar}
use Rattle.omm_kvn.specs.declared.message.Message.{Message}
use Rattle.omm_kvn.specs.declared.orbit.Orbit.{Orbit}
use Rattle.omm_kvn.specs.declared.place.Place.{Place}
use Rattle.omm_kvn.specs.Entries.{entries}
use Rattle.omm_kvn.specs.Needed.{of_header, may_pass, is_type}
use Rattle.omm_kvn.specs.Numbers.{epoch_given, number_given, orbit_given, decimal_given}
use Rattle.omm_kvn.specs.Places.{Places}
use Rattle.elements.specs.Steps.{◌>>=◌}

-- the element set of these numbers
abbrev pub elements_of : ℕ → ℤ → Orbit → DecimalRecord → ElementsRecord
elements_of number epoch orbit bstar = record {
  number = number;
  epoch = epoch;
  motion = orbit.motion;
  ecc = orbit.ecc;
  incl = orbit.incl;
  node = orbit.node;
  argp = orbit.argp;
  anomaly = orbit.anomaly;
  bstar = bstar;
}

-- the element set of the values at these places, or the first fault in the order of the keys
unfoldable pub elements_given : List ℕ → Places → Result ElementsRecord OmmFault
elements_given text places = do
  header ← of_header text places
  epoch ← epoch_given text places
  orbit ← orbit_given text places
  number ← number_given text places
  type ← may_pass EphemerisType is_type text (places EphemerisType)
  bstar ← decimal_given Bstar text places
  Ok (elements_of number epoch orbit bstar)

-- where the name stands, and 0 to 0 where there is none
abbrev pub name_place : Places → Place
name_place places = unwrap_or (places Name) (record { from = 0; to = 0 })

-- an element set, with the place of its name
abbrev pub message_of : ElementsRecord → Place → Message
message_of elements name = record { elements = elements; name_from = name.from; name_to = name.to }

-- the message that a text writes, or its first fault: of the lines in their order, and then of the keys in theirs
unfoldable pub message_value : List ℕ → Result Message OmmFault
message_value text = do
  places ← entries text
  elements ← elements_given text places
  Ok (message_of elements (name_place places))
