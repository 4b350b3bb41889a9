-- Fields and separators in the columns of a line, or the fault of their first column.
use Rattle.std.specs.Prelude.{ℕ, List, Option, Some, None, Result, Ok, Err, if◌then◌else◌}
use Rattle.std.specs.Char.{is_ascii_digit}
use Rattle.tle_read.specs.declared.fault.TleFault.{TleFault}
use Rattle.tle_read.specs.declared.fault.TleFault.TheVariants as faults
use Rattle.tle_read.specs.Columns.{byte_in, is_space}

-- the value of a field that begins in this column of the line with this number, or the fault where it has no value
abbrev pub of_form : {A : Type 0} → (number first : ℕ) → Option A → Result A TleFault
of_form number first (Some value) = Ok value
of_form number first None = Err (faults.Column number first)

-- a space in the column
unfoldable pub space_at : (number column : ℕ) → List ℕ → Result (Unit {0}) TleFault
space_at number column line = if is_space (byte_in column line) then Ok tt else Err (faults.Column number column)

-- a digit in the column
unfoldable pub digit_at : (number column : ℕ) → List ℕ → Result (Unit {0}) TleFault
digit_at number column line = if is_ascii_digit (byte_in column line) then Ok tt else Err (faults.Column number column)
