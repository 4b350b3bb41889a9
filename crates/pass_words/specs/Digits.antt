-- The numbers that few digits write.
use Rattle.std.specs.Prelude.{ℕ, ◌+◌, ◌-◌, ◌*◌, ◌==◌, nat_le, Bool, false, ◌&&◌, List, [], ◌∷◌, length, Option, Some, None, if◌then◌else◌}
use Rattle.std.specs.Char.{is_ascii_digit}
use Rattle.std.specs.List.{list_all}
use Rattle.std.specs.Str.{byte}
use Rattle.std.specs.Str.Parse.{digits_value}

-- the number that one to nine digits write
abbrev pub few_digits : List ℕ → Option ℕ
few_digits text =
    if nat_le 1 (length text) && nat_le (length text) 9 && list_all is_ascii_digit text
    then Some (digits_value 10 text) else None

-- the text begins with a zero
abbrev pub has_leading_zero : List ℕ → Bool
has_leading_zero [] = false
has_leading_zero (first ∷ rest) = first == byte "0"

-- the number that one to nine digits write without a leading zero
abbrev pub plain_number : List ℕ → Option ℕ
plain_number text = if has_leading_zero text then None else few_digits text

-- the number of a digit
abbrev pub digit : ℕ → ℕ
digit c = c - byte "0"

-- the number that one or two digits write
abbrev pub short_number : List ℕ → Option ℕ
short_number (ones ∷ []) = if is_ascii_digit ones then Some (digit ones) else None
short_number (tens ∷ ones ∷ []) =
    if is_ascii_digit tens && is_ascii_digit ones then Some (10 * digit tens + digit ones) else None
short_number _ = None
