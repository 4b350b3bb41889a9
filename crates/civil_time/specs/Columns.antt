-- The columns of a text, counted from 0, and the numbers that stand in them.
use Rattle.std.specs.Prelude.{ℕ, Bool, ◌==◌, ◌&&◌, List, length, take, drop, slice_index}
use Rattle.std.specs.List.{list_all}
use Rattle.std.specs.Char.{is_ascii_digit}
use Rattle.std.specs.Str.Parse.{digits_value}

-- so many columns from a column on, or those of them that the text has
abbrev pub columns : ℕ → ℕ → List ℕ → List ℕ
columns from count text = take count (drop from text)

-- the text has so many columns from this one on, and a digit in each
unfoldable pub are_digits : ℕ → ℕ → List ℕ → Bool
are_digits from count text = (length (columns from count text) == count) && list_all is_ascii_digit (columns from count text)

-- the number in so many columns from this one on
unfoldable pub number_at : ℕ → ℕ → List ℕ → ℕ
number_at from count text = digits_value 10 (columns from count text)

-- the text has this byte in the column
abbrev pub has_mark : ℕ → ℕ → List ℕ → Bool
has_mark column byte text = slice_index text column == byte
