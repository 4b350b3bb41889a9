-- A place between the messages of a file.
use Rattle.std.specs.Prelude.{ℕ, List, [], ◌∷◌, if◌then◌else◌}
use Rattle.omm_kvn.specs.Lines.{split}
use Rattle.catalogue.specs.MessageFile.{NumberedText, messages_from}
use Rattle.catalogue.specs.Place.{PlaceRecord}

-- the messages from a place on, where one begins if the file is not at its end
abbrev pub messages_at : PlaceRecord → List NumberedText
messages_at place = if place.ended then [] else messages_from place.number (split place.rest)

-- the first of these lines, and an empty one where there is none
abbrev pub first_of : List (List ℕ) → List ℕ
first_of [] = []
first_of (line ∷ lines) = line
