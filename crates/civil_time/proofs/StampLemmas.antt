-- The text that the printer makes of a date and a time is that of its instant.
use Rattle.std.proofs.Common.{◌≡◌, ℕ, ◌+◌, ◌-◌, ◌/◌, ◌%◌, ◌^◌, ◌<◌, ◌≤◌, refl, sym, arith, List, [], ◌∷◌, ◌++◌, codes, false, Some, ℤ, pos, ◌+ℤ◌, ◌-ℤ◌, min, ◌==◌, length}
use Rattle.std.proofs.lemmas.Bool.{ne_eqb}
use Rattle.std.proofs.lemmas.List.{append_assoc, length-append}
use Rattle.jiff_core.specs.declared.civil.date.Date.{Date}
use Rattle.jiff_core.specs.declared.civil.time.Time.{Time}
use Rattle.jiff_core.specs.declared.civil.datetime.DateTime.{DateTime}
use Rattle.jiff_core.proofs.CalendarLemmas.{days_in_month_bounds}
use Rattle.jiff_core.specs.Date.{epoch_day}
use Rattle.jiff_core.specs.DateTime.{civil_nanos}
use Rattle.jiff_core.specs.Time.{time_nanos}
use Rattle.jiff_core.proofs.SignedLemmas.{signed_arith, int_rem_euclid-parts}
use Rattle.jiff_core.proofs.DateTimeLemmas.{civil_nanos-parts, time_nanos_bound, epoch_day-civil_nanos}
use Rattle.jiff_fmt.specs.Text as printed
use Rattle.civil_time.specs.Scale.{IsInstantDay, scale_zero, IsInstant}
use Rattle.civil_time.specs.CivilDate.{CivilDate, date_of_day}
use Rattle.civil_time.specs.InstantText.{fixed_digits, date_text, clock_text, instant_text, day_of_instant, nanos_of_day}
use Rattle.civil_time.proofs.DateLemmas.{dates_are_of_the_calendar, parts_of_day}
use Rattle.civil_time.proofs.TextLemmas.{length-fixed_digits, pad2-digits, pad4-digits, places-digits}

-- the text of a year, a month and a day
parts_text : (y : ℤ) (m d : ℕ) (date : CivilDate) → y ≡ pos date.year → m ≡ date.month → d ≡ date.day → date.year < 10000 → date.month < 100 → date.day < 100 → printed.year_text y ++ 45 ∷ [] ++ printed.pad2 m ++ 45 ∷ [] ++ printed.pad2 d ≡ date_text date
unfolding date_text
parts_text y m d date year month day low mid high =
    rw (year, month, day, ← pad4-digits date.year low, ← pad2-digits date.month mid, ← pad2-digits date.day high) refl

-- the calendar's date of a day and ours have one text
date_same : (d : Date) → IsInstantDay (epoch_day d) → printed.date_text d ≡ date_text (date_of_day (epoch_day d))
date_same d h =
    let date = date_of_day (epoch_day d) in
    let is = dates_are_of_the_calendar (epoch_day d) h in
    let same = parts_of_day d h in
    let long = (days_in_month_bounds (pos date.year) date.month).0 in
    parts_text d.year d.month d.day date same.0 same.1 same.2 (omega (arith, signed_arith, is.of_the_years)) (omega (arith, is.of_the_calendar.1)) (omega (arith, is.of_the_calendar.2, long))

-- the parts of a time of day
clock_same : (t : Time) (count : ℕ) → 1 ≤ count → count ≤ 9 → printed.time_text (Some count) t ≡ clock_text count (time_nanos t)
unfolding clock_text
clock_same t count low high =
    let nanos = time_nanos t in
    let hour : nanos / 3600000000000 ≡ t.hour = omega arith in
    let minute : nanos / 60000000000 % 60 ≡ t.minute = omega arith in
    let second : nanos / 1000000000 % 60 ≡ t.second = omega arith in
    let rest : nanos % 1000000000 ≡ t.subsec_nanosecond = omega arith in
    let some : (count == 0) ≡ false = ne_eqb count 0 (λ e. omega arith) in
    let few : min count 9 ≡ count = omega arith in
    let all : count + (9 - count) ≡ 9 = omega arith in
    let decimals : printed.places count 1000000000 t.subsec_nanosecond ≡ fixed_digits count (t.subsec_nanosecond / 10 ^ (9 - count)) = rw all at (places-digits count (9 - count) t.subsec_nanosecond (rw all (omega arith))) in
    rw (some, few, hour, minute, second, rest, ← decimals, ← pad2-digits t.hour (omega arith), ← pad2-digits t.minute (omega arith), ← pad2-digits t.second (omega arith)) refl

-- the day and the time of day of an instant
day_same : (dt : DateTime) (n : ℤ) → civil_nanos dt -ℤ pos scale_zero ≡ n → day_of_instant n ≡ epoch_day dt.date
day_same dt n e =
    let shifted : n +ℤ pos 946728000000000000 ≡ civil_nanos dt = omega (arith, signed_arith, e) in
    rw shifted (sym (epoch_day-civil_nanos dt))

time_same : (dt : DateTime) (n : ℤ) → civil_nanos dt -ℤ pos scale_zero ≡ n → nanos_of_day n ≡ time_nanos dt.time
time_same dt n e =
    let shifted : n +ℤ pos 946728000000000000 ≡ civil_nanos dt = omega (arith, signed_arith, e) in
    rw shifted (omega (arith, signed_arith, epoch_day-civil_nanos dt, int_rem_euclid-parts (civil_nanos dt) 86400000000000 (omega arith), civil_nanos-parts dt, time_nanos_bound dt.time))

-- an instant's day is among those of the years
pub instant_day : (n : ℤ) → IsInstant n → IsInstantDay (day_of_instant n)
instant_day n h = omega (arith, signed_arith)

joined : (date time mark : List ℕ) → (date ++ 84 ∷ time) ++ mark ≡ date ++ codes "T" ++ time ++ mark
joined date time mark = simp append_assoc refl

-- what the printer writes of an instant, and `Z`, is its text
pub stamp : (dt : DateTime) (n : ℤ) (count : ℕ) → IsInstant n → civil_nanos dt -ℤ pos scale_zero ≡ n → 1 ≤ count → count ≤ 9 → printed.datetime_text false 84 (Some count) dt ++ codes "Z" ≡ instant_text count n
unfolding instant_text
stamp dt n count h e low high =
    let day = day_same dt n e in
    rw (day, time_same dt n e, ← date_same dt.date (rw (← day) (instant_day n h)), ← clock_same dt.time count low high) (joined (printed.date_text dt.date) (printed.time_text (Some count) dt.time) (codes "Z"))

-- how long the text of an instant is
pub length-instant_text : (count : ℕ) (n : ℤ) → length (instant_text count n) ≡ 21 + count
unfolding instant_text date_text clock_text
length-instant_text count n =
    simp (length-append, length-fixed_digits) (omega arith)
