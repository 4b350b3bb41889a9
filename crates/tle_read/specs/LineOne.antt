-- The fields of line 1, or its first column that is not of its form.
use Rattle.std.specs.Prelude.{ℕ, List, Result, Ok}
use Rattle.decimals.specs.Decimal.{DecimalRecord}
use Rattle.tle_read.specs.declared.fault.TleFault.{TleFault}
use Rattle.tle_read.specs.declared.line_one.LineOne.{LineOne}
use Rattle.tle_read.specs.declared.line_one.Epoch.{Epoch}
use Rattle.tle_read.specs.Columns.{columns, byte_in}
use Rattle.tle_read.specs.Fields.{catalogue_number, year_of, fixed_point, drag_of, type_of}
use Rattle.tle_read.specs.Forms.{of_form, space_at, digit_at}
use Rattle.elements.specs.Steps.{◌>>=◌}

-- columns 2 to 18: the catalogue number; the class and the designator are not read
unfoldable pub number_part : List ℕ → Result ℕ TleFault
number_part line = do
  gap ← space_at 1 2 line
  number ← of_form 1 3 (catalogue_number (columns 3 7 line))
  gap ← space_at 1 9 line
  gap ← space_at 1 18 line
  Ok number

-- columns 19 to 44: the epoch; the first derivative of the motion is not read
unfoldable pub epoch_part : List ℕ → Result Epoch TleFault
epoch_part line = do
  year ← of_form 1 19 (year_of (columns 19 20 line))
  day ← of_form 1 21 (fixed_point (columns 21 32 line))
  gap ← space_at 1 33 line
  gap ← space_at 1 44 line
  Ok (record { year = year; day = day })

-- columns 53 to 62: the drag term; the second derivative of the motion before it is not read
unfoldable pub drag_part : List ℕ → Result DecimalRecord TleFault
drag_part line = do
  gap ← space_at 1 53 line
  drag ← of_form 1 54 (drag_of (columns 54 61 line))
  gap ← space_at 1 62 line
  Ok drag

-- columns 63 to 69: the ephemeris type; the set's number is not read
unfoldable pub type_part : List ℕ → Result ℕ TleFault
type_part line = do
  kind ← of_form 1 63 (type_of (byte_in 63 line))
  gap ← space_at 1 64 line
  gap ← digit_at 1 69 line
  Ok kind

-- the fields from left to right
unfoldable pub line_one : List ℕ → Result LineOne TleFault
line_one line = do
  number ← number_part line
  epoch ← epoch_part line
  drag ← drag_part line
  kind ← type_part line
  Ok (record { number = number; epoch = epoch; drag = drag; kind = kind })
