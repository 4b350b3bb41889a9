-- The instants that texts write: `YYYY-MM-DDThh:mm:ss` or `YYYY-DDDThh:mm:ss`, then up to nine decimals after a point, then `Z`, both where wanted.
use Rattle.std.specs.Prelude.{ℕ, ◌+◌, ◌-◌, ◌*◌, ◌^◌, Bool, not, ◌==◌, ◌&&◌, ◌||◌, if◌then◌else◌, nat_lt, List, length, take, drop, ℤ, pos, ◌+ℤ◌, Result, Ok, Err}
use Rattle.std.specs.Int.{is_in_range}
use Rattle.std.specs.List.{list_all}
use Rattle.std.specs.Char.{is_ascii_digit}
use Rattle.std.specs.Str.Parse.{digits_value}
use Rattle.jiff_core.specs.Calendar.{days_in_year, days_in_month, days_from_civil}
use Rattle.civil_time.specs.declared.fault.TimeFault.{TimeFault}
use Rattle.civil_time.specs.declared.fault.TimeFault.TheVariants as faults
use Rattle.civil_time.specs.Scale.{first_year, last_year, start_of_day}
use Rattle.civil_time.specs.Columns.{are_digits, number_at, has_mark}

-- the byte `-`
abbrev pub dash : ℕ
dash = 45

-- the byte `.`
abbrev pub point : ℕ
point = 46

-- the byte `:`
abbrev pub colon : ℕ
colon = 58

-- the byte `T`
abbrev pub letter_t : ℕ
letter_t = 84

-- the byte `Z`
abbrev pub letter_z : ℕ
letter_z = 90

-- the text without a `Z` at its end
unfoldable pub without_z : List ℕ → List ℕ
without_z text = if has_mark (length text - 1) letter_z text then take (length text - 1) text else text

-- the date is written by month and day, with a dash between them, and not by the day of the year
unfoldable pub has_month : List ℕ → Bool
has_month text = has_mark 7 dash text

-- how many columns the date has
unfoldable pub date_width : List ℕ → ℕ
date_width text = if has_month text then 10 else 8

-- `YYYY-MM-DD` or `YYYY-DDD` at the beginning
unfoldable pub is_date_form : List ℕ → Bool
is_date_form text =
    are_digits 0 4 text && has_mark 4 dash text
    && (if has_month text then are_digits 5 2 text && are_digits 8 2 text else are_digits 5 3 text)

-- `Thh:mm:ss` from this column on
unfoldable pub is_clock_form : ℕ → List ℕ → Bool
is_clock_form from text =
    has_mark from letter_t text && are_digits (from + 1) 2 text
    && has_mark (from + 3) colon text && are_digits (from + 4) 2 text
    && has_mark (from + 6) colon text && are_digits (from + 7) 2 text

-- nothing, or a point and one to nine digits
unfoldable pub is_decimals_form : List ℕ → Bool
is_decimals_form part =
    (length part == 0)
    || (has_mark 0 point part && is_in_range 2 10 (length part) && list_all is_ascii_digit (drop 1 part))

-- what follows the date and the clock
abbrev pub decimals_part : List ℕ → List ℕ
decimals_part text = drop (date_width text + 9) text

-- a date, a clock, and decimals where wanted
unfoldable pub is_form : List ℕ → Bool
is_form text = is_date_form text && is_clock_form (date_width text) text && is_decimals_form (decimals_part text)

-- the year
abbrev pub year_at : List ℕ → ℕ
year_at text = number_at 0 4 text

-- the calendar has this day
unfoldable pub is_day : List ℕ → Bool
is_day text =
    if has_month text then
    is_in_range 1 12 (number_at 5 2 text)
    && is_in_range 1 (days_in_month (pos (year_at text)) (number_at 5 2 text)) (number_at 8 2 text)
    else is_in_range 1 (days_in_year (pos (year_at text))) (number_at 5 3 text)

-- its number from 1970-01-01
unfoldable pub day_at : List ℕ → ℤ
day_at text =
    if has_month text then days_from_civil (pos (year_at text)) (number_at 5 2 text) (number_at 8 2 text)
    else days_from_civil (pos (year_at text)) 1 1 +ℤ pos (number_at 5 3 text - 1)

-- a clock shows this hour, minute and second
unfoldable pub is_clock : ℕ → List ℕ → Bool
is_clock from text =
    nat_lt (number_at (from + 1) 2 text) 24 && nat_lt (number_at (from + 4) 2 text) 60
    && nat_lt (number_at (from + 7) 2 text) 60

-- the seconds since midnight
unfoldable pub seconds_at : ℕ → List ℕ → ℕ
seconds_at from text =
    number_at (from + 1) 2 text * 3600 + number_at (from + 4) 2 text * 60 + number_at (from + 7) 2 text

-- the nanoseconds of the decimals after the point
unfoldable pub decimals_at : List ℕ → ℕ
decimals_at part = digits_value 10 (drop 1 part) * 10 ^ (10 - length part)

-- the instant of a text that has the form, a day of the calendar and a time of day
unfoldable pub moment_at : List ℕ → ℤ
moment_at text =
    start_of_day (day_at text)
    +ℤ pos (seconds_at (date_width text) text * 1_000_000_000 + decimals_at (decimals_part text))

-- the instant of a text without its `Z`, or the first fault: the form, then the day and the time of day, then the year
unfoldable pub utc_without_z : List ℕ → Result ℤ TimeFault
utc_without_z text =
    if not (is_form text) then Err faults.Shape
    else (if not (is_day text && is_clock (date_width text) text) then Err faults.NotADay
    else (if not (is_in_range first_year last_year (year_at text)) then Err faults.Year
    else Ok (moment_at text)))

-- the instant that a text writes, or its first fault
unfoldable pub utc_value : List ℕ → Result ℤ TimeFault
utc_value text = utc_without_z (without_z text)
