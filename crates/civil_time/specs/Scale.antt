-- The scale of instants: nanoseconds from 2000-01-01T12:00:00 UTC, on days of 86,400 seconds, in the years 1957 to 2056.
use Rattle.std.specs.Prelude.{ℕ, ℤ, pos, neg_ℤ, ◌-ℤ◌, ◌*ℤ◌}
use Rattle.jiff_core.specs.Calendar.{days_from_civil, IsBetween}

-- the first year that has instants
abbrev pub first_year : ℕ
first_year = 1957

-- the last one
abbrev pub last_year : ℕ
last_year = 2056

-- the year has instants
abbrev pub IsInstantYear : ℤ → Type 0
IsInstantYear year = IsBetween (pos first_year) (pos last_year) year

-- the days from 1957-01-01 to 1970-01-01
abbrev pub days_before_1970 : ℕ
days_before_1970 = 4748

-- the day is one of these years, by its number from 1970-01-01
abbrev pub IsInstantDay : ℤ → Type 0
IsInstantDay day = IsBetween (neg_ℤ (pos days_before_1970)) (pos 31_776) day

-- the instant 1957-01-01T00:00:00
abbrev pub first_instant : ℤ
first_instant = neg_ℤ (pos 1_356_955_200_000_000_000)

-- the last nanosecond before 2057-01-01T00:00:00
abbrev pub last_instant : ℤ
last_instant = pos 1_798_804_799_999_999_999

-- so many nanoseconds are an instant of these years
abbrev pub IsInstant : ℤ → Type 0
IsInstant nanos = IsBetween first_instant last_instant nanos

-- the nanoseconds of a day
abbrev pub day_nanos : ℕ
day_nanos = 86_400_000_000_000

-- the nanoseconds from 1970-01-01T00:00:00 to 2000-01-01T12:00:00
abbrev pub scale_zero : ℕ
scale_zero = 946_728_000_000_000_000

-- when a day begins, by its number from 1970-01-01
abbrev pub start_of_day : ℤ → ℤ
start_of_day day = day *ℤ pos day_nanos -ℤ pos scale_zero

-- when a year begins
abbrev pub start_of_year : ℤ → ℤ
start_of_year year = start_of_day (days_from_civil year 1 1)
