-- The columns of a line, counted from 1, and a text without what stands at its ends.
use Rattle.std.specs.Prelude.{ℕ, ◌+◌, ◌-◌, ◌==◌, ◌||◌, Bool, List, [], ◌∷◌, reverse, take, drop, slice_index, if◌then◌else◌}

-- the bytes in these columns, both included
abbrev pub columns : ℕ → ℕ → List ℕ → List ℕ
columns first last line = take (last + 1 - first) (drop (first - 1) line)

-- the byte in a column
abbrev pub byte_in : ℕ → List ℕ → ℕ
byte_in column line = slice_index line (column - 1)

-- the byte is a space
abbrev pub is_space : ℕ → Bool
is_space byte = byte == 32

-- the byte is a space, a tab or a carriage return
abbrev pub is_blank : ℕ → Bool
is_blank byte = (byte == 32) || (byte == 9) || (byte == 13)

-- a text from the first byte on that does not pass
abbrev pub skip_while : (ℕ → Bool) → List ℕ → List ℕ
skip_while passes [] = []
skip_while passes (byte ∷ rest) = if passes byte then skip_while passes rest else byte ∷ rest

-- a text up to the last byte that does not pass
abbrev pub skip_end : (ℕ → Bool) → List ℕ → List ℕ
skip_end passes text = reverse (skip_while passes (reverse text))
