-- The day numbers of the first days of the years of instants.
use Rattle.std.proofs.Common.{◌≡◌, ℕ, ◌+◌, ◌-◌, ◌*◌, ◌<◌, ◌≤◌, refl, arith, ℤ, pos, neg_ℤ, ◌+ℤ◌}
use Rattle.std.proofs.lemmas.Int.{by_lt_z}
use Rattle.jiff_core.specs.Calendar.{IsCivilDate, days_in_year, day_count, days_from_civil, IsBetween}
use Rattle.jiff_core.proofs.SignedLemmas.{signed_arith}
use Rattle.jiff_core.proofs.MarchLemmas.{day_count-early}
use Rattle.jiff_core.proofs.CalendarLemmas.{days_from_civil-day_count, day_count-later_year, days_in_year_bounds, day_count-day_of_year, day_of_year_bound}
use Rattle.civil_time.specs.YearSpan.{InstantsAreOfTheYears}
use Rattle.civil_time.specs.Scale.{IsInstantDay, start_of_day, IsInstantYear, IsInstant, start_of_year, day_nanos}

pub day_count-first : day_count (pos 1957) 1 1 ≡ 4367205
day_count-first = day_count-early (pos 1957) 11956 1 1 refl (omega arith) (omega arith) (omega arith)

pub day_count-end : day_count (pos 2057) 1 1 ≡ 4403730
day_count-end = day_count-early (pos 2057) 12056 1 1 refl (omega arith) (omega arith) (omega arith)

-- the days of a year that has instants are among those of all these years
pub year_days : (y : ℤ) → IsInstantYear y → (4367205 ≤ day_count y 1 1) × (day_count y 1 1 + days_in_year y ≤ 4403730)
year_days y h =
    let from_first : 4367205 ≤ day_count y 1 1 = by_lt_z (pos 1957) y
    (λ lt. omega (arith, day_count-first, day_count-later_year (pos 1957) y (omega (arith, signed_arith)) lt))
    (λ le. let e : y ≡ pos 1957 = omega (arith, signed_arith) in rw e (omega (arith, day_count-first))) in
    omega (arith, day_count-end, day_count-later_year y (pos 2057) (omega (arith, signed_arith)) (omega (arith, signed_arith)))

-- and so its instants lie in their range
pub year_instants : (y : ℤ) (n : ℕ) → IsInstantYear y → n < days_in_year y * day_nanos → IsInstant (start_of_year y +ℤ pos n)
year_instants y n h lt =
    omega (arith, signed_arith, year_days y h, days_from_civil-day_count y 1 1)

-- the number of the first day of such a year
pub year_day : (y : ℤ) → IsInstantYear y → IsBetween (neg_ℤ (pos 4748)) (pos 31412) (days_from_civil y 1 1)
year_day y h =
    omega (arith, signed_arith, year_days y h, days_in_year_bounds y, days_from_civil-day_count y 1 1)

-- the number of a day of such a year, by its date
pub civil_day : (y : ℤ) (m d : ℕ) → IsInstantYear y → IsCivilDate y m d → IsInstantDay (days_from_civil y m d)
civil_day y m d h date =
    let days = year_days y h in
    let first = day_count-day_of_year y m d date.2.0 in
    let bound = day_of_year_bound y m d date in
    let number = days_from_civil-day_count y m d in
    (omega (arith, signed_arith), omega (arith, signed_arith))

-- and by its place in the year
pub place_day : (y : ℤ) (n : ℕ) → IsInstantYear y → 1 ≤ n → n ≤ days_in_year y → IsInstantDay (days_from_civil y 1 1 +ℤ pos (n - 1))
place_day y n h low high =
    let days = year_days y h in
    let number = days_from_civil-day_count y 1 1 in
    (omega (arith, signed_arith), omega (arith, signed_arith))

-- so many nanoseconds after such a day began
pub day_instants : (day : ℤ) (n : ℕ) → IsInstantDay day → n < day_nanos → IsInstant (start_of_day day +ℤ pos n)
day_instants day n h lt = omega (arith, signed_arith)

pub instants_are_of_the_years : InstantsAreOfTheYears
instants_are_of_the_years =
    let first = days_from_civil-day_count (pos 1957) 1 1 in
    let end = days_from_civil-day_count (pos 2057) 1 1 in
    (omega (arith, signed_arith, day_count-first), omega (arith, signed_arith, day_count-end))
