-- What each line of a message is: a keyword with its value, or nothing that is read, or none of these.
use Rattle.std.specs.Prelude.{ℕ, ◌+◌, ◌==◌, ◌&&◌, ◌||◌, nat_le, nat_eq, not, Bool, true, List, [], ◌∷◌, length, codes, take, drop, position, Option, Some, None, if◌then◌else◌}
use Rattle.std.specs.List.{starts_with}
use Rattle.omm_kvn.specs.declared.key.Key.{Key}
use Rattle.omm_kvn.specs.declared.line.Kind.{Kind}
use Rattle.omm_kvn.specs.declared.line.Kind.TheVariants.{Passed, Entry, Malformed}
use Rattle.omm_kvn.specs.declared.place.Place.{Place}
use Rattle.omm_kvn.specs.Keys.{key_of}
use Rattle.omm_kvn.specs.Pieces.{PieceRecord, is_blank, past_blanks, trimmed}
use Rattle.omm_kvn.specs.Places.{place_of_piece}

-- nothing stands there, or a blank first
abbrev pub is_ended : List ℕ → Bool
is_ended [] = true
is_ended (byte ∷ rest) = is_blank byte

-- the line is `COMMENT`, alone or before a blank and text
abbrev pub is_comment : List ℕ → Bool
is_comment line = starts_with nat_eq line (codes "COMMENT") && is_ended (drop 7 line)

-- the byte may stand in a keyword: a capital letter, a digit or `_`
abbrev pub is_keyword_byte : ℕ → Bool
is_keyword_byte byte =
    (nat_le 65 byte && nat_le byte 90) || (nat_le 48 byte && nat_le byte 57) || (byte == 95)

-- where the keyword ends that a line begins with, if more follows
abbrev pub keyword_end : List ℕ → Option ℕ
keyword_end line = position (λ byte. not (is_keyword_byte byte)) line

-- the place of what follows `=` and blanks, if `=` stands first
abbrev pub value_from : ℕ → List ℕ → Option Place
value_from from [] = None
value_from from (byte ∷ rest) = if byte == 61 then Some (place_of_piece (past_blanks (from + 1) rest)) else None

-- the same of a piece
abbrev pub value_place : PieceRecord → Option Place
value_place piece = value_from piece.from piece.bytes

-- a keyword and the place of its value, if it is one that is read
abbrev pub keyed : Option Key → Place → Kind
keyed None value = Passed
keyed (Some key) value = Entry key value

-- a keyword, and the place of its value if there is one
abbrev pub with_value : List ℕ → Option Place → Kind
with_value keyword None = Malformed
with_value keyword (Some value) = keyed (key_of keyword) value

-- a line that begins with a keyword of so many bytes, before blanks, `=`, blanks and a value
abbrev pub entry : PieceRecord → ℕ → Kind
entry line width =
    with_value (take width line.bytes) (value_place (past_blanks (line.from + width) (drop width line.bytes)))

-- a line whose keyword ends there, and has at least one byte
abbrev pub with_keyword : PieceRecord → Option ℕ → Kind
with_keyword line None = Malformed
with_keyword line (Some width) = if width == 0 then Malformed else entry line width

-- a line that is neither blank nor a comment
abbrev pub kind_written : PieceRecord → Kind
kind_written line = with_keyword line (keyword_end line.bytes)

-- a line without blanks at its ends
abbrev pub kind_trimmed : PieceRecord → Kind
kind_trimmed line = if (length line.bytes == 0) || is_comment line.bytes then Passed else kind_written line

-- what a line is
unfoldable pub kind_of : PieceRecord → Kind
kind_of line = kind_trimmed (trimmed line)
