-- The values of the keys among the lines of a message, or the first line that is at fault.
use Rattle.std.specs.Prelude.{ℕ, ◌+◌, Bool, true, false, List, [], ◌∷◌, ◌++◌, length, Option, None, Some, is_some, Result, Ok, Err, if◌then◌else◌}
use Rattle.std.specs.Option.{option_or}
use Rattle.omm_kvn.specs.declared.fault.OmmFault.{OmmFault}
use Rattle.omm_kvn.specs.declared.fault.OmmFault.TheVariants as faults
use Rattle.omm_kvn.specs.declared.key.Key.{Key}
use Rattle.omm_kvn.specs.declared.key.Key.TheVariants.{SemiMajorAxis, Bterm, Agom}
use Rattle.omm_kvn.specs.declared.line.Kind.{Kind}
use Rattle.omm_kvn.specs.declared.line.Kind.TheVariants.{Passed, Entry, Malformed}
use Rattle.omm_kvn.specs.declared.place.Place.{Place}
use Rattle.omm_kvn.specs.Keys.{is_same}
use Rattle.omm_kvn.specs.Lines.{kinds}
use Rattle.omm_kvn.specs.Places.{Places}

-- the key belongs to elements of a theory that is not read
abbrev pub is_unread : Key → Bool
is_unread SemiMajorAxis = true
is_unread Bterm = true
is_unread Agom = true
is_unread _ = false

-- the place of a key's value, if the line has the key
abbrev pub value_in : Key → Kind → Option Place
value_in key Passed = None
value_in key (Entry other value) = if is_same other key then Some value else None
value_in key Malformed = None

-- the place of a key's value in the first of the lines that has the key
abbrev pub look_up : Key → List Kind → Option Place
look_up key [] = None
look_up key (line ∷ lines) = option_or (value_in key line) (look_up key lines)

-- the fault of a line behind these earlier ones: it has no form of a line, its key is not read, or an earlier line has
-- the key
abbrev pub fault_of : List Kind → Kind → Option OmmFault
fault_of earlier Passed = None
fault_of earlier (Entry key value) =
    if is_unread key then Some (faults.Unsupported key)
    else (if is_some (look_up key earlier) then Some (faults.Twice key) else None)
fault_of earlier Malformed = Some (faults.Line (length earlier + 1))

-- the first fault of the lines behind these earlier ones
abbrev pub first_fault : List Kind → List Kind → Option OmmFault
first_fault earlier [] = None
first_fault earlier (line ∷ lines) = option_or (fault_of earlier line) (first_fault (earlier ++ line ∷ []) lines)

-- the places of the values of all lines, or the fault where there is one
abbrev pub unless_fault : Option OmmFault → List Kind → Result Places OmmFault
unless_fault (Some fault) lines = Err fault
unless_fault None lines = Ok (λ key. look_up key lines)

-- the places of the values of a text's lines, or the first line's fault
unfoldable pub entries : List ℕ → Result Places OmmFault
entries text = unless_fault (first_fault [] (kinds text)) (kinds text)
