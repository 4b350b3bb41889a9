-- The element sets of a file in the order of its lines, or its first fault.
use Rattle.std.specs.Prelude.{ℕ, nat_lt, List, [], ◌∷◌, length, take, Result, Ok, Err, if◌then◌else◌}
use Rattle.elements.specs.Steps.{◌>>=◌}
use Rattle.catalogue.specs.declared.entry.Entry.{Entry}
use Rattle.catalogue.specs.declared.fault.CatFault.{CatFault}
use Rattle.catalogue.specs.declared.fault.CatFault.TheVariants.{Empty, TooMany}
use Rattle.catalogue.specs.Entries.{most_entries}
use Rattle.catalogue.specs.Lines.{written_lines}
use Rattle.catalogue.specs.MessageFile.{is_of_messages, messages, sets_of_messages}
use Rattle.catalogue.specs.TwoLineFile.{sets_of}

-- each set of a file, or its fault: the file is of messages or of two-line sets
abbrev pub sets_in : List ℕ → List (Result Entry CatFault)
sets_in bytes =
    if is_of_messages (written_lines bytes) then sets_of_messages (messages bytes) else sets_of (written_lines bytes)

-- all sets, or the first fault among them
abbrev pub all_of : List (Result Entry CatFault) → Result (List Entry) CatFault
all_of [] = Ok []
all_of (set ∷ sets) = do
  first ← set
  others ← all_of sets
  Ok (first ∷ others)

-- at most so many sets: the first fault among the first so many, and else all of them, if no further one is there
abbrev pub at_most : ℕ → List (Result Entry CatFault) → Result (List Entry) CatFault
at_most most sets = do
  read ← all_of (take most sets)
  if nat_lt most (length sets) then Err TooMany else Ok read

-- the same of a file that has a written line, and so a set or a fault
abbrev pub some_of : List (Result Entry CatFault) → Result (List Entry) CatFault
some_of [] = Err Empty
some_of (set ∷ sets) = at_most most_entries (set ∷ sets)

-- the element sets of a file, of which there may be 16,384, or its first fault
unfoldable pub element_sets : List ℕ → Result (List Entry) CatFault
element_sets bytes = some_of (sets_in bytes)
