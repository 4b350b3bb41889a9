-- Keys that a message must have, and the values of keys that are words.
use Rattle.std.specs.Prelude.{ℕ, ◌||◌, Bool, List, [], codes, Option, Some, None, Result, Ok, Err, if◌then◌else◌}
use Rattle.std.specs.Str.{bytes_eq}
use Rattle.omm_kvn.specs.declared.fault.OmmFault.{OmmFault}
use Rattle.omm_kvn.specs.declared.fault.OmmFault.TheVariants as faults
use Rattle.omm_kvn.specs.declared.key.Key.{Key}
use Rattle.omm_kvn.specs.declared.key.Key.TheVariants.{Version, Centre, Frame, TimeSystem, Theory}
use Rattle.omm_kvn.specs.declared.place.Place.{Place}
use Rattle.omm_kvn.specs.Places.{Places, bytes_at}
use Rattle.elements.specs.Steps.{◌>>=◌}

-- the place of a key's value, which must be there
abbrev pub needed : Key → Option Place → Result Place OmmFault
needed key None = Err (faults.Missing key)
needed key (Some place) = Ok place

-- what holds, or else the value of this key is none that is read
abbrev pub supported : Key → Bool → Result (Unit {0}) OmmFault
supported key holds = if holds then Ok tt else Err (faults.Unsupported key)

-- a value that must pass where it is there
abbrev pub may_pass : Key → (List ℕ → Bool) → List ℕ → Option Place → Result (Unit {0}) OmmFault
may_pass key passes text None = Ok tt
may_pass key passes text (Some place) = supported key (passes (bytes_at text place))

-- a value that must be there and pass
abbrev pub must_pass : Key → (List ℕ → Bool) → List ℕ → Option Place → Result (Unit {0}) OmmFault
must_pass key passes text found = do
  place ← needed key found
  supported key (passes (bytes_at text place))

-- the versions that are read
abbrev pub is_version : List ℕ → Bool
is_version value = bytes_eq value (codes "2.0") || bytes_eq value (codes "3.0")

-- the theories
abbrev pub is_theory : List ℕ → Bool
is_theory value = bytes_eq value (codes "SGP4") || bytes_eq value (codes "SGP/SGP4")

-- the ephemeris types, of which there may be none
abbrev pub is_type : List ℕ → Bool
is_type value = bytes_eq value [] || bytes_eq value (codes "0") || bytes_eq value (codes "2")

-- the version, the centre, the frame, the time system and the theory are those that are read
unfoldable pub of_header : List ℕ → Places → Result (Unit {0}) OmmFault
of_header text places = do
  version ← must_pass Version is_version text (places Version)
  centre ← may_pass Centre (λ value. bytes_eq value (codes "EARTH")) text (places Centre)
  frame ← may_pass Frame (λ value. bytes_eq value (codes "TEME")) text (places Frame)
  system ← may_pass TimeSystem (λ value. bytes_eq value (codes "UTC")) text (places TimeSystem)
  must_pass Theory is_theory text (places Theory)
