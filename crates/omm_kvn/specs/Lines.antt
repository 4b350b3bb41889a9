-- The lines of a text, and what each of them is.
use Rattle.std.specs.Prelude.{ℕ, ◌+◌, ◌==◌, List, [], ◌∷◌, length, map, if◌then◌else◌}
use Rattle.omm_kvn.specs.declared.line.Kind.{Kind}
use Rattle.omm_kvn.specs.Kinds.{kind_of}
use Rattle.omm_kvn.specs.Pieces.{PieceRecord}

-- the lines of a text that has one byte more in front
abbrev pub begun : ℕ → List (List ℕ) → List (List ℕ)
begun byte [] = (byte ∷ []) ∷ []
begun byte (line ∷ lines) = (byte ∷ line) ∷ lines

-- the lines of a text, which line feeds divide
abbrev pub split : List ℕ → List (List ℕ)
split [] = [] ∷ []
split (byte ∷ rest) = if byte == 10 then [] ∷ split rest else begun byte (split rest)

-- the lines as pieces of the text, the first of which begins at this place
abbrev pub pieces : ℕ → List (List ℕ) → List PieceRecord
pieces from [] = []
pieces from (line ∷ lines) = record { from = from; bytes = line } ∷ pieces (from + length line + 1) lines

-- what each line of a text is, where the text begins at this place
abbrev pub kinds_from : ℕ → List ℕ → List Kind
kinds_from from text = map kind_of (pieces from (split text))

-- what each line of a text is
unfoldable pub kinds : List ℕ → List Kind
kinds text = kinds_from 0 text
