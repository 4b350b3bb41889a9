-- Pieces of a text, and what is left of one without what stands at its ends.
use Rattle.std.specs.Prelude.{ℕ, ◌+◌, ◌≤◌, ◌==◌, ◌||◌, Bool, List, [], ◌∷◌, length, reverse, if◌then◌else◌}

-- some bytes of a text, and the number of the byte where they begin
pub record PieceRecord : Type 0 where
  pub from : ℕ
  pub bytes : List ℕ

-- the most bytes of a text: 16 MiB
abbrev pub most_bytes : ℕ
most_bytes = 16_777_216

-- the piece lies in a text that is not too long
abbrev pub IsPiece : PieceRecord → Type 0
IsPiece piece = piece.from + length piece.bytes ≤ most_bytes

-- the byte is a space or a tab
abbrev pub is_blank : ℕ → Bool
is_blank byte = (byte == 32) || (byte == 9)

-- the byte is a space, a tab or a carriage return
abbrev pub is_trailing : ℕ → Bool
is_trailing byte = (byte == 32) || (byte == 9) || (byte == 13)

-- the bytes from the first one on that does not pass
abbrev pub skip_while : (ℕ → Bool) → List ℕ → List ℕ
skip_while passes [] = []
skip_while passes (byte ∷ rest) = if passes byte then skip_while passes rest else byte ∷ rest

-- the bytes up to the last one that does not pass
abbrev pub skip_end : (ℕ → Bool) → List ℕ → List ℕ
skip_end passes bytes = reverse (skip_while passes (reverse bytes))

-- the piece of these bytes from the first one on that is no blank, where the bytes begin at this place
abbrev pub past_blanks : ℕ → List ℕ → PieceRecord
past_blanks from [] = record { from = from; bytes = [] }
past_blanks from (byte ∷ rest) =
    if is_blank byte then past_blanks (from + 1) rest else record { from = from; bytes = byte ∷ rest }

-- the piece without the blanks at its ends, and without carriage returns behind
abbrev pub trimmed : PieceRecord → PieceRecord
trimmed piece =
    let kept = past_blanks piece.from piece.bytes in
    record { from = kept.from; bytes = skip_end is_trailing kept.bytes }
