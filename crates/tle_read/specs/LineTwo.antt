-- The fields of line 2, or its first column that is not of its form.
use Rattle.std.specs.Prelude.{ℕ, ◌+◌, List, Result, Ok}
use Rattle.tle_read.specs.declared.fault.TleFault.{TleFault}
use Rattle.tle_read.specs.declared.line_two.LineTwo.{LineTwo}
use Rattle.tle_read.specs.Columns.{columns}
use Rattle.tle_read.specs.Fields.{FixedPoint, catalogue_number, fixed_point, eccentricity_of}
use Rattle.tle_read.specs.Forms.{of_form, space_at, digit_at}
use Rattle.elements.specs.Steps.{◌>>=◌}

-- columns 2 to 8: the catalogue number between spaces
unfoldable pub number_part : List ℕ → Result ℕ TleFault
number_part line = do
  gap ← space_at 2 2 line
  number ← of_form 2 3 (catalogue_number (columns 3 7 line))
  gap ← space_at 2 8 line
  Ok number

-- eight columns from this one on: an angle, and then a space
unfoldable pub angle_part : ℕ → List ℕ → Result FixedPoint TleFault
angle_part first line = do
  angle ← of_form 2 first (fixed_point (columns first (first + 7) line))
  gap ← space_at 2 (first + 8) line
  Ok angle

-- columns 27 to 34: the eccentricity, and then a space
unfoldable pub eccentricity_part : List ℕ → Result FixedPoint TleFault
eccentricity_part line = do
  ecc ← of_form 2 27 (eccentricity_of (columns 27 33 line))
  gap ← space_at 2 34 line
  Ok ecc

-- columns 53 to 69: the mean motion; the revolution number is not read
unfoldable pub motion_part : List ℕ → Result FixedPoint TleFault
motion_part line = do
  motion ← of_form 2 53 (fixed_point (columns 53 63 line))
  gap ← digit_at 2 69 line
  Ok motion

-- the fields from left to right
unfoldable pub line_two : List ℕ → Result LineTwo TleFault
line_two line = do
  number ← number_part line
  incl ← angle_part 9 line
  node ← angle_part 18 line
  ecc ← eccentricity_part line
  argp ← angle_part 35 line
  anomaly ← angle_part 44 line
  motion ← motion_part line
  Ok (record { number = number; incl = incl; node = node; ecc = ecc; argp = argp; anomaly = anomaly; motion = motion })
