-- The element set that two lines write, or their first fault.
use Rattle.std.specs.Prelude.{ℕ, ◌+◌, ◌-◌, ◌==◌, ◌&&◌, not, List, length, Result, Ok, Err, if◌then◌else◌}
use Rattle.std.specs.Char.{is_ascii_digit}
use Rattle.elements.specs.Elements.{ElementsRecord}
use Rattle.tle_read.specs.declared.fault.TleFault.{TleFault}
use Rattle.tle_read.specs.declared.fault.TleFault.TheVariants as faults
use Rattle.tle_read.specs.declared.line_one.LineOne.{LineOne}
use Rattle.tle_read.specs.declared.line_two.LineTwo.{LineTwo}
use Rattle.tle_read.specs.CheckDigit.{check_digit}
use Rattle.tle_read.specs.Columns.{byte_in, is_blank, skip_end}
use Rattle.tle_read.specs.LineOne.{line_one}
use Rattle.tle_read.specs.LineTwo.{line_two}
use Rattle.tle_read.specs.Ranges.{of_one_number, of_theory, of_ranges, elements_of}
use Rattle.elements.specs.Steps.{◌>>=◌}

-- a line without the blanks at its end
abbrev pub trimmed : List ℕ → List ℕ
trimmed line = skip_end is_blank line

-- the line with this number has 69 columns
unfoldable pub of_length : ℕ → List ℕ → Result (Unit {0}) TleFault
of_length number line = if length line == 69 then Ok tt else Err (faults.Length number (length line))

-- it begins with its number
unfoldable pub of_number : ℕ → List ℕ → Result (Unit {0}) TleFault
of_number number line = if byte_in 1 line == 48 + number then Ok tt else Err (faults.LineNumber number)

-- a digit in its last column is the check digit
unfoldable pub of_check : ℕ → List ℕ → Result (Unit {0}) TleFault
of_check number line =
    if is_ascii_digit (byte_in 69 line) && not (byte_in 69 line - 48 == check_digit line)
    then Err (faults.Check number (byte_in 69 line - 48) (check_digit line))
    else Ok tt

-- the lengths of both lines, and then their numbers
unfoldable pub of_lines : List ℕ → List ℕ → Result (Unit {0}) TleFault
of_lines line1 line2 = do
  length1 ← of_length 1 line1
  length2 ← of_length 2 line2
  number1 ← of_number 1 line1
  of_number 2 line2

-- the check digits of both lines
unfoldable pub of_checks : List ℕ → List ℕ → Result (Unit {0}) TleFault
of_checks line1 line2 = do
  check1 ← of_check 1 line1
  of_check 2 line2

-- the elements of both lines' fields: one number, then the theory, then the ranges
unfoldable pub elements_value : LineOne → LineTwo → Result ElementsRecord TleFault
elements_value first second = do
  same ← of_one_number first second
  theory ← of_theory first
  ranges ← of_ranges first second
  Ok (elements_of first second)

-- the elements of two lines without blanks at their ends: the lengths and the numbers of the lines, then their check
-- digits, then the columns of line 1 and of line 2, and then what the fields must be together
unfoldable pub lines_value : List ℕ → List ℕ → Result ElementsRecord TleFault
lines_value line1 line2 = do
  lines ← of_lines line1 line2
  checks ← of_checks line1 line2
  first ← line_one line1
  second ← line_two line2
  elements_value first second

-- the element set that two lines write, or their first fault
unfoldable pub tle_value : List ℕ → List ℕ → Result ElementsRecord TleFault
tle_value line1 line2 = lines_value (trimmed line1) (trimmed line2)
