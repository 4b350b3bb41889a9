-- The forms of the fields of element lines, and the values that they write.
use Rattle.std.specs.Prelude.{ℕ, ◌+◌, ◌-◌, ◌*◌, ◌^◌, ◌<◌, ◌≤◌, ◌==◌, ◌&&◌, ◌||◌, nat_lt, nat_le, Bool, true, false, List, ◌++◌, length, codes, position, Option, Some, None, option_map, if◌then◌else◌, pos}
use Rattle.std.specs.Char.{is_ascii_digit}
use Rattle.std.specs.Option.{option_or}
use Rattle.std.specs.List.{list_all, before_first, after_first}
use Rattle.std.specs.Str.Parse.{digits_value}
use Rattle.decimals.specs.Decimal.{DecimalRecord}
use Rattle.decimals.specs.Normal.{normal, signed}
use Rattle.tle_read.specs.Columns.{columns, byte_in, is_space, skip_while, skip_end}

-- digits alone, and at least one
abbrev pub are_digits : List ℕ → Bool
are_digits text = list_all is_ascii_digit text && nat_le 1 (length text)

-- the number that digits write after spaces, if there are any
unfoldable pub spaced_number : List ℕ → Option ℕ
spaced_number text =
    let digits = skip_while is_space text in
    if are_digits digits then Some (digits_value 10 digits) else None

-- the letters that stand for ten thousands: all but I and O
abbrev pub letters : List ℕ
letters = codes "ABCDEFGHJKLMNPQRSTUVWXYZ"

-- the number that a letter stands for: 10 for A, up to 33 for Z
unfoldable pub letter_value : ℕ → Option ℕ
letter_value byte = option_map (λ place. place + 10) (position (λ letter. letter == byte) letters)

-- the number of a letter and four digits
unfoldable pub lettered_number : List ℕ → Option ℕ
lettered_number text =
    let digits = columns 2 5 text in
    if list_all is_ascii_digit digits
    then option_map (λ letter. letter * 10_000 + digits_value 10 digits) (letter_value (byte_in 1 text))
    else None

-- the catalogue number in five columns: digits after spaces, or a letter and four digits
unfoldable pub catalogue_number : List ℕ → Option ℕ
catalogue_number text = option_or (spaced_number text) (lettered_number text)

-- the years of two digits: 57 to 99 are 1957 to 1999, and 0 to 56 are 2000 to 2056
abbrev pub full_year : ℕ → ℕ
full_year short = if nat_lt short 57 then 2000 + short else 1900 + short

-- the year in two columns
unfoldable pub year_of : List ℕ → Option ℕ
year_of text = option_map full_year (spaced_number text)

-- a number in fixed point: its digits as one whole number, and how many of them stand after the point
pub record FixedPoint : Type 0 where
  pub digits : ℕ
  pub places : ℕ

-- at most twelve digits, and at most eleven of them after the point
pub record IsShort (number : FixedPoint) : Type 0 where
  pub digits : number.digits < 10 ^ 12
  pub places : number.places ≤ 11

-- the byte is the point
abbrev pub is_point : ℕ → Bool
is_point byte = byte == 46

-- the number that digits with at most one point among them write, between spaces
unfoldable pub fixed_point : List ℕ → Option FixedPoint
fixed_point text =
    let number = skip_end is_space (skip_while is_space text) in
    let fraction = after_first is_point number in
    let digits = before_first is_point number ++ fraction in
    if are_digits digits then Some (record { digits = digits_value 10 digits; places = length fraction }) else None

-- the decimal that a number in fixed point is
abbrev pub decimal_of : FixedPoint → DecimalRecord
decimal_of number = normal (pos number.digits) number.places

-- the eccentricity in seven columns, all of them after a point that is left out: a space in front counts as 0
unfoldable pub eccentricity_of : List ℕ → Option FixedPoint
eccentricity_of text =
    let digits = skip_while is_space text in
    if list_all is_ascii_digit digits then Some (record { digits = digits_value 10 digits; places = 7 }) else None

-- the number is below 1
abbrev pub IsBelowOne : FixedPoint → Type 0
IsBelowOne number = number.digits < 10 ^ number.places

-- the byte is a sign: a space and a plus are the plus
abbrev pub is_sign : ℕ → Bool
is_sign byte = (byte == 32) || (byte == 43) || (byte == 45)

-- 0.ddddd times ten to a power, where both have a sign
abbrev pub power_value : (minus : Bool) → ℕ → (power_minus : Bool) → ℕ → DecimalRecord
power_value minus digits true power = normal (signed minus digits) (5 + power)
power_value minus digits false power = normal (signed minus (digits * 10 ^ power)) 5

-- a sign and five digits, and a sign and one digit
abbrev pub is_power_form : List ℕ → Bool
is_power_form text =
    is_sign (byte_in 1 text) && list_all is_ascii_digit (columns 2 6 text)
    && is_sign (byte_in 7 text) && is_ascii_digit (byte_in 8 text)

-- the drag term in eight columns: a sign, five digits after a point that is left out, and a power of ten with its sign
unfoldable pub drag_of : List ℕ → Option DecimalRecord
drag_of text =
    let minus = byte_in 1 text == 45 in
    let power_minus = byte_in 7 text == 45 in
    if is_power_form text
    then Some (power_value minus (digits_value 10 (columns 2 6 text)) power_minus (byte_in 8 text - 48))
    else None

-- the ephemeris type: a digit, or a space for 0
abbrev pub type_of : ℕ → Option ℕ
type_of byte = if is_space byte then Some 0 else (if is_ascii_digit byte then Some (byte - 48) else None)
