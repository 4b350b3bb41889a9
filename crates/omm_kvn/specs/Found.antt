-- The places that the code has found, line by line.
use Rattle.std.specs.Prelude.{ℕ, None, Some, is_some, slice_index_or, Result, Ok, Err, if◌then◌else◌}
use Rattle.omm_kvn.specs.declared.fault.OmmFault.{OmmFault}
use Rattle.omm_kvn.specs.declared.fault.OmmFault.TheVariants as faults
use Rattle.omm_kvn.specs.declared.found.Found.{Found}
use Rattle.omm_kvn.specs.declared.key.Key.{Key}
use Rattle.omm_kvn.specs.declared.line.Kind.{Kind}
use Rattle.omm_kvn.specs.declared.line.Kind.TheVariants.{Passed, Entry, Malformed}
use Rattle.omm_kvn.specs.declared.place.Place.{Place}
use Rattle.omm_kvn.specs.Entries.{is_unread}
use Rattle.omm_kvn.specs.Keys.{is_same, place_of}
use Rattle.omm_kvn.specs.Places.{Places}

-- the place of each key's value
abbrev pub places_in : Found → Places
places_in found key = slice_index_or found.places (place_of key) None

-- the places of an answer, or its fault
abbrev pub found_places : Result Found OmmFault → Result Places OmmFault
found_places (Ok found) = Ok (places_in found)
found_places (Err fault) = Err fault

-- no key has a value
abbrev pub none_yet : Places
none_yet key = None

-- these places, and one more
abbrev pub filled : Key → Place → Places → Places
filled key value places other = if is_same key other then Some value else places other

-- these places with that of the line with this number, or its fault
abbrev pub taken : ℕ → Places → Kind → Result Places OmmFault
taken number before Passed = Ok before
taken number before (Entry key value) =
    if is_unread key then Err (faults.Unsupported key)
    else (if is_some (before key) then Err (faults.Twice key) else Ok (filled key value before))
taken number before Malformed = Err (faults.Line number)
