-- The name that a text gives a satellite.
use Rattle.std.specs.Prelude.{ℕ, nat_lt, ◌==◌, ◌&&◌, not, List, [], ◌∷◌, map, take, codes, if◌then◌else◌}

-- a text from the first byte on that is no space
abbrev pub skip_spaces : List ℕ → List ℕ
skip_spaces [] = []
skip_spaces (byte ∷ rest) = if byte == 32 then skip_spaces rest else byte ∷ rest

-- a text without a 0 and a space in front, if it has both
abbrev pub without_zero : List ℕ → List ℕ
without_zero [] = []
without_zero (byte ∷ []) = byte ∷ []
without_zero (byte ∷ next ∷ rest) = if (byte == 48) && (next == 32) then rest else byte ∷ next ∷ rest

-- at most the first 64 bytes
abbrev pub first_bytes : List ℕ → List ℕ
first_bytes text = take 64 text

-- the byte, or a question mark where it is not from 32 to 126
abbrev pub printed : ℕ → ℕ
printed byte = if not (nat_lt byte 32) && not (nat_lt 126 byte) then byte else 63

-- the text, and a dash where it is empty
abbrev pub or_dash : List ℕ → List ℕ
or_dash [] = codes "-"
or_dash (byte ∷ rest) = byte ∷ rest

-- the name: without the spaces in front, a 0 and a space, and the spaces that lead after that; of this the first 64
-- bytes, printed
unfoldable pub name_of : List ℕ → List ℕ
name_of text = or_dash (map printed (first_bytes (skip_spaces (without_zero (skip_spaces text)))))
