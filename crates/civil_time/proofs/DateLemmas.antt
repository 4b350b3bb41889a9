-- The date of a day is the calendar's.
use borrow.Author.Differences.{up, down}
use Rattle.std.specs.Int.{IsInRange}
use Rattle.std.proofs.lemmas.Bool.{cases_lt, lt-ltb, le-ltb}
use Rattle.std.proofs.Common.{inl, inr, ◌≡◌, ℕ, zero, suc, ◌+◌, ◌-◌, ◌<◌, ◌≤◌, refl, sym, ◌∙◌, arith, ℤ, pos, ◌+ℤ◌}
use Rattle.jiff_core.specs.Calendar.{days_in_year, days_in_month, days_of_months, day_count}
use Rattle.jiff_core.proofs.SignedLemmas.{signed_arith}
use Rattle.jiff_core.proofs.CalendarLemmas.{days_from_civil-day_count, day_count-next_year, day_count-next_month, day_count-day, days_of_months_all, days_of_months_more, days_of_months-zero}
use Rattle.jiff_core.proofs.DateLemmas.{epoch_day_injective}
use Rattle.jiff_core.specs.Date.{epoch_day}
use Rattle.jiff_core.specs.declared.civil.date.Date.{Date}
use Rattle.civil_time.specs.Scale.{IsInstantDay}
use Rattle.civil_time.specs.CivilDate.{CivilDate, date_from_month, date_from_year, date_of_day, IsDateOf}
use Rattle.civil_time.proofs.YearLemmas.{civil_day, day_count-first, day_count-end}

-- the date lies in the year, and its day follows the first of the month by so many days
pub record IsDaysFrom (year month days : ℕ) (date : CivilDate) : Type 0 where
  pub same_year : date.year ≡ year
  pub month_low : 1 ≤ date.month
  pub month_high : date.month ≤ 12
  pub day_low : 1 ≤ date.day
  pub day_high : date.day ≤ days_in_month (pos year) date.month
  pub counted : day_count (pos year) date.month date.day ≡ day_count (pos year) month 1 + days

-- a day of the month itself
here : (year month days : ℕ) → 1 ≤ month → month ≤ 12 → days < days_in_month (pos year) month → IsDaysFrom year month days (record { year = year; month = month; day = days + 1 })
here year month days low high lt =
    record {
      same_year = refl;
      month_low = low;
      month_high = high;
      day_low = omega arith;
      day_high = omega arith;
      counted = omega (arith, day_count-day (pos year) month (days + 1) 1 (omega arith) (omega arith));
    }

-- from a month on to the next
later_month : (year month days : ℕ) (date : CivilDate) → 1 ≤ month → days_in_month (pos year) month ≤ days → IsDaysFrom year (month + 1) (days - days_in_month (pos year) month) date → IsDaysFrom year month days date
later_month year month days date low more h =
    record {
      same_year = h.same_year;
      month_low = h.month_low;
      month_high = h.month_high;
      day_low = h.day_low;
      day_high = h.day_high;
      counted = omega (arith, h.counted, day_count-next_month (pos year) month low);
    }

-- the date lies in the years, and so many days come before it
pub record IsDateAt (count : ℕ) (date : CivilDate) : Type 0 where
  pub year_low : 1957 ≤ date.year
  pub year_high : date.year ≤ 2056
  pub month_in : IsInRange 1 12 date.month
  pub day_in : IsInRange 1 (days_in_month (pos date.year) date.month) date.day
  pub counted : day_count (pos date.year) date.month date.day ≡ count

-- counting months ends in the month in which the day lies
from_month : (year month days following : ℕ) → 1 ≤ month → month + following ≡ 12 → days + days_of_months (pos year) (month - 1) < days_in_year (pos year) → IsDaysFrom year month days (date_from_month year month days following)
unfolding date_from_month
from_month year month days zero low e lt =
    let last : month ≡ 12 = omega arith in
    here year month days low (omega arith) (rw last (omega (arith, rw last at lt, days_of_months_more (pos year) 12 (omega arith), days_of_months_all (pos year))))
from_month year month days (suc following) low e lt =
    let month_days = days_in_month (pos year) month in
    let next : month + 1 - 1 ≡ month = omega arith in
    elim (cases_lt days month_days) [
      | inl less ↦ rw (lt-ltb days month_days less) (here year month days low (omega arith) less)
      | inr more ↦ rw (le-ltb days month_days more) (later_month year month days _ low more (from_month year (month + 1) (days - month_days) following (omega arith) (omega arith) (rw next (omega (arith, days_of_months_more (pos year) month low)))))
    ]

-- a day of the year itself
in_year : (year days : ℕ) → 1957 ≤ year → year ≤ 2056 → days < days_in_year (pos year) → IsDateAt (day_count (pos year) 1 1 + days) (date_from_month year 1 days 11)
in_year year days low high lt =
    let date = date_from_month year 1 days 11 in
    let is : IsDaysFrom year 1 days date = from_month year 1 days 11 (omega arith) refl (omega (arith, days_of_months-zero (pos year))) in
    record {
      year_low = omega (arith, is.same_year);
      year_high = omega (arith, is.same_year);
      month_in = (is.month_low, is.month_high);
      day_in = (is.day_low, rw (is.same_year) is.day_high);
      counted = rw (is.same_year) is.counted;
    }

-- counting years ends in the year in which the day lies
from_year : (year days following : ℕ) → 1957 ≤ year → year + following ≡ 2056 → day_count (pos year) 1 1 + days < day_count (pos 2057) 1 1 → IsDateAt (day_count (pos year) 1 1 + days) (date_from_year year days following)
unfolding date_from_year
from_year year days zero low e lt =
    let last : year ≡ 2056 = omega arith in
    in_year year days low (omega arith) (rw last (omega (arith, rw last at lt, day_count-next_year (pos 2056) (pos 2057) (omega (arith, signed_arith)) refl)))
from_year year days (suc following) low e lt =
    let year_days = days_in_year (pos year) in
    let next : day_count (pos (year + 1)) 1 1 ≡ day_count (pos year) 1 1 + year_days = day_count-next_year (pos year) (pos (year + 1)) (omega (arith, signed_arith)) (omega (arith, signed_arith)) in
    elim (cases_lt days year_days) [
      | inl less ↦ rw (lt-ltb days year_days less) (in_year year days low (omega arith) less)
      | inr more ↦ rw (le-ltb days year_days more) (
          let same : day_count (pos (year + 1)) 1 1 + (days - year_days) ≡ day_count (pos year) 1 1 + days = omega arith in
          rw same at (from_year (year + 1) (days - year_days) following (omega arith) (omega arith) (omega arith)))
    ]

-- the date so many days after 1957-01-01
from_first : (days : ℕ) (day : ℤ) → days < 36525 → day +ℤ pos 4748 ≡ pos days → IsDateOf day (date_from_year 1957 days 99)
from_first days day lt e =
    let date = date_from_year 1957 days 99 in
    let is : IsDateAt (day_count (pos 1957) 1 1 + days) date = from_year 1957 days 99 (omega arith) refl (omega (arith, day_count-first, day_count-end)) in
    record {
      of_the_years = (omega (arith, signed_arith, is.year_low), omega (arith, signed_arith, is.year_high));
      of_the_calendar = ((omega (arith, signed_arith, is.year_low), omega (arith, signed_arith, is.year_high)), is.month_in, is.day_in);
      numbered = omega (arith, signed_arith, is.counted, day_count-first, days_from_civil-day_count (pos date.year) date.month date.day);
    }

-- each day of the years has its date in the calendar
pub dates_are_of_the_calendar : (day : ℤ) → IsInstantDay day → IsDateOf day (date_of_day day)
unfolding date_of_day
dates_are_of_the_calendar day h =
    let days = up day + 4748 - down day in
    let e : day +ℤ pos 4748 ≡ pos days = omega (arith, signed_arith) in
    rw e (from_first days day (omega (arith, signed_arith)) e)

-- a date of the years has its number among theirs
pub date_range : (date : CivilDate) (day : ℤ) → IsDateOf day date → IsInstantDay day
date_range date day h =
    rw h.numbered at (civil_day (pos date.year) date.month date.day h.of_the_years h.of_the_calendar)

-- the calendar's own record of a date
abbrev as_date : (date : CivilDate) (day : ℤ) → IsDateOf day date → Date
as_date date day h =
    record { year = pos date.year; month = date.month; day = date.day; year_in = h.of_the_calendar.0; month_in = h.of_the_calendar.1; day_in = h.of_the_calendar.2 }

-- dates with the same parts are one date
same_date : (a b : CivilDate) → a.year ≡ b.year → a.month ≡ b.month → a.day ≡ b.day → a ≡ b
same_date a b year month day = rw (year, month, day) refl

-- and a date of its own
pub dates_are_found_again : (date : CivilDate) (day : ℤ) → IsDateOf day date → date_of_day day ≡ date
dates_are_found_again date day h =
    let found = date_of_day day in
    let is : IsDateOf day found = dates_are_of_the_calendar day (date_range date day h) in
    let same = epoch_day_injective (as_date found day is) (as_date date day h) (is.numbered ∙ sym h.numbered) in
    same_date found date (omega (arith, signed_arith, same.0)) same.1 same.2

-- the parts of the calendar's date of a day are those that are counted
pub parts_of_day : (d : Date) → IsInstantDay (epoch_day d) → (d.year ≡ pos (date_of_day (epoch_day d)).year) × (d.month ≡ (date_of_day (epoch_day d)).month) × (d.day ≡ (date_of_day (epoch_day d)).day)
parts_of_day d h =
    let is = dates_are_of_the_calendar (epoch_day d) h in
    epoch_day_injective d (as_date (date_of_day (epoch_day d)) (epoch_day d) is) (sym is.numbered)
