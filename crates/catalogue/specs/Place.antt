-- A place between the lines of a file.
use Rattle.std.specs.Prelude.{ℕ, ◌+◌, ◌≤◌, Bool, List, [], length, if◌then◌else◌}
use Rattle.catalogue.specs.Lines.{NumberedLine, written_from}

-- the number of the next line, whether there is none, and the text from it on
pub record PlaceRecord : Type 0 where
  pub number : ℕ
  pub ended : Bool
  pub rest : List ℕ

-- the most bytes of a file: 16 MiB
abbrev pub most_bytes : ℕ
most_bytes = 16_777_216

-- lines are counted from 1, and the file is not too long
pub record IsPlace (place : PlaceRecord) : Type 0 where
  pub least : 1 ≤ place.number
  pub most : place.number + length place.rest ≤ most_bytes + 1

-- the written lines from a place on
abbrev pub lines_at : PlaceRecord → List NumberedLine
lines_at place = if place.ended then [] else written_from place.number place.rest

-- what is left to read: each line makes it less
abbrev pub left_at : PlaceRecord → ℕ
left_at place = length place.rest + (if place.ended then 0 else 1)
