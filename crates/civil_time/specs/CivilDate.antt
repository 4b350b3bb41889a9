-- The date of a day, by counting from 1957-01-01: whole years first, then the whole months of the year in which the day lies.
use Rattle.std.specs.Prelude.{◌≡◌, ℕ, zero, suc, ◌+◌, ◌-◌, nat_lt, if◌then◌else◌, ℤ, pos, ◌+ℤ◌, unsigned_abs}
use Rattle.jiff_core.specs.Calendar.{days_in_year, days_in_month, days_from_civil, IsCivilDate}
use Rattle.civil_time.specs.Scale.{first_year, last_year, days_before_1970, IsInstantYear, IsInstantDay}

-- a date: the year, the month of the year and the day of the month, both from 1
pub record CivilDate : Type 0 where
  pub year : ℕ
  pub month : ℕ
  pub day : ℕ

-- the date so many days after the first of a month, which so many months of its year follow
unfoldable pub date_from_month : ℕ → ℕ → ℕ → ℕ → CivilDate
date_from_month year month days zero = record { year = year; month = month; day = days + 1 }
date_from_month year month days (suc following) =
    if nat_lt days (days_in_month (pos year) month)
    then record { year = year; month = month; day = days + 1 }
    else date_from_month year (month + 1) (days - days_in_month (pos year) month) following

-- the date so many days after the first of a year, which so many years follow
unfoldable pub date_from_year : ℕ → ℕ → ℕ → CivilDate
date_from_year year days zero = date_from_month year 1 days 11
date_from_year year days (suc following) =
    if nat_lt days (days_in_year (pos year)) then date_from_month year 1 days 11
    else date_from_year (year + 1) (days - days_in_year (pos year)) following

-- the date of a day of the years 1957 to 2056, by the day's number from 1970-01-01
unfoldable pub date_of_day : ℤ → CivilDate
date_of_day day = date_from_year first_year (unsigned_abs (day +ℤ pos days_before_1970)) (last_year - first_year)

-- the day has this date in the calendar
pub record IsDateOf (day : ℤ) (date : CivilDate) : Type 0 where
  pub of_the_years : IsInstantYear (pos date.year)
  pub of_the_calendar : IsCivilDate (pos date.year) date.month date.day
  pub numbered : days_from_civil (pos date.year) date.month date.day ≡ day

-- each day of the years has its date in the calendar
abbrev pub DatesAreOfTheCalendar : Type 0
DatesAreOfTheCalendar = (day : ℤ) → IsInstantDay day → IsDateOf day (date_of_day day)

-- and the date of a date's day is the date
abbrev pub DatesAreFoundAgain : Type 0
DatesAreFoundAgain =
    (date : CivilDate) (day : ℤ) → IsDateOf day date → date_of_day day ≡ date
