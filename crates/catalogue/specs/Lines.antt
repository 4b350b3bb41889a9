-- The lines of a file that are not blank, each with its number.
use Rattle.std.specs.Prelude.{ℕ, ◌+◌, Bool, List, [], ◌∷◌, length, nat_lt, if◌then◌else◌}
use Rattle.omm_kvn.specs.Lines.{split}
use Rattle.tle_read.specs.TwoLine.{trimmed}

-- a line without the blanks at its end, and its number
pub record NumberedLine : Type 0 where
  pub number : ℕ
  pub text : List ℕ

-- lines in order, the first of which has this number
abbrev pub numbered : ℕ → List (List ℕ) → List NumberedLine
numbered number [] = []
numbered number (line ∷ lines) = record { number = number; text = trimmed line } ∷ numbered (number + 1) lines

-- something is left of the line
abbrev pub is_written : NumberedLine → Bool
is_written line = nat_lt 0 (length line.text)

-- these lines behind one more, if something is left of it
abbrev pub behind : NumberedLine → List NumberedLine → List NumberedLine
behind line lines = if is_written line then line ∷ lines else lines

-- those lines of which something is left
abbrev pub written : List NumberedLine → List NumberedLine
written [] = []
written (line ∷ lines) = behind line (written lines)

-- the written lines of a text whose first line has this number
abbrev pub written_from : ℕ → List ℕ → List NumberedLine
written_from number text = written (numbered number (split text))

-- the written lines of a file: line feeds divide it into lines, which are counted from 1 with the blank ones
abbrev pub written_lines : List ℕ → List NumberedLine
written_lines bytes = written_from 1 bytes
