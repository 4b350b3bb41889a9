-- The check digit of an element line: the sum of the digits of columns 1 to 68, a minus counted as 1, modulo 10.
use Rattle.std.specs.Prelude.{ℕ, ◌-◌, ◌%◌, ◌==◌, List, if◌then◌else◌}
use Rattle.std.specs.Char.{is_ascii_digit}
use Rattle.std.specs.List.{sum_by}
use Rattle.tle_read.specs.Columns.{columns}

-- what a byte adds to the sum: a digit its value, a minus one, and each other byte nothing
abbrev pub weight : ℕ → ℕ
weight byte = if is_ascii_digit byte then byte - 48 else (if byte == 45 then 1 else 0)

-- the digit that column 69 should hold
unfoldable pub check_digit : List ℕ → ℕ
check_digit line = sum_by weight (columns 1 68 line) % 10
