-- The numbers that digits write.
use Rattle.std.specs.Prelude.{ℕ, ◌&&◌, nat_le, List, length, Option, Some, None, if◌then◌else◌}
use Rattle.std.specs.Char.{is_ascii_digit}
use Rattle.std.specs.List.{list_all}
use Rattle.std.specs.Str.Parse.{digits_value}

-- the number that one to nine digits write
abbrev pub short_number : List ℕ → Option ℕ
short_number text =
    if nat_le 1 (length text) && nat_le (length text) 9 && list_all is_ascii_digit text
    then Some (digits_value 10 text) else None
