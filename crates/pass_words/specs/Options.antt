-- The options of the words, or their first fault from left to right.
use Rattle.std.specs.Prelude.{ℕ, ◌+◌, List, [], ◌∷◌, ◌++◌, Option, Some, None, is_some, Result, Ok, Err, if◌then◌else◌}
use Rattle.std.specs.Option.{option_or}
use Rattle.pass_words.specs.declared.fault.UsageFault.{UsageFault}
use Rattle.pass_words.specs.declared.fault.UsageFault.TheVariants as faults
use Rattle.pass_words.specs.declared.key.Opt.{Opt}
use Rattle.pass_words.specs.declared.role.Role.{Role}
use Rattle.pass_words.specs.declared.role.Role.TheVariants.{Opens, Value, Stray}
use Rattle.pass_words.specs.Places.{Places, is_same}
use Rattle.pass_words.specs.Roles.{roles}

-- where the values of the keys stand in words of these roles: that of a key in the first option that has it
abbrev pub place_of : List Role → Places
place_of [] key = None
place_of (Opens other part ∷ rest) key = if is_same other key then Some part else place_of rest key
place_of (Value ∷ rest) key = place_of rest key
place_of (Stray ∷ rest) key = place_of rest key

-- the fault of the word with this number and role behind words of other roles: it is no part of an option, or it begins
-- one whose key stood before
abbrev pub fault_behind : List Role → ℕ → Role → Option UsageFault
fault_behind earlier at Stray = Some (faults.Word at)
fault_behind earlier at Value = None
fault_behind earlier at (Opens key part) = if is_some (place_of earlier key) then Some (faults.Twice key) else None

-- the first fault, from left to right, of words of these roles, which are numbered from here behind words of other roles
abbrev pub first_fault : List Role → ℕ → List Role → Option UsageFault
first_fault earlier at [] = None
first_fault earlier at (role ∷ rest) =
    option_or (fault_behind earlier at role) (first_fault (earlier ++ role ∷ []) (at + 1) rest)

-- a value where there is no fault
abbrev pub unless : {A : Type 0} → Option UsageFault → A → Result A UsageFault
unless None x = Ok x
unless (Some fault) x = Err fault

-- the roles of the words after the command, which are numbered from 2
abbrev pub option_roles : List Opt → List (List ℕ) → List Role
option_roles keys [] = []
option_roles keys (command ∷ words) = roles keys 2 command words

-- where the values of the options stand, or the first fault
abbrev pub options : List Role → Result Places UsageFault
options words = unless (first_fault [] 2 words) (place_of words)
