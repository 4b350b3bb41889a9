-- What is written of an instant is read as that instant.
use Rattle.std.specs.Int.{is_in_range}
use Rattle.std.proofs.Common.{length, drop, slice_index, ◌≡◌, ℕ, suc, ◌+◌, ◌-◌, ◌*◌, ◌/◌, ◌%◌, ◌^◌, ◌<◌, ◌≤◌, true, false, ◌==◌, nat_lt, refl, sym, ap, ◌∙◌, arith, List, [], ◌∷◌, ◌++◌, codes, Ok, ℤ, pos, ◌+ℤ◌, ◌-ℤ◌, ◌*ℤ◌}
use Rattle.std.proofs.Common.{eq-eqb, ne_eqb}
use Rattle.std.proofs.lemmas.Bool.Decides.{nat_tests}
use Rattle.std.proofs.lemmas.List.{append_assoc, length-append}
use Rattle.std.proofs.Math.Nat.{mod-lt, div-add-mod'}
use Rattle.std.proofs.Math.Seq.{get_or-append_seam, take-append_seam}
use Rattle.std.proofs.lemmas.Bool.{lt-ltb}
use Rattle.jiff_core.specs.Calendar.{IsCivilDate, days_in_month, days_from_civil}
use Rattle.jiff_core.proofs.CalendarLemmas.{days_in_month_bounds}
use Rattle.jiff_core.proofs.SignedLemmas.{signed_arith}
use borrow.Author.Differences.{up, down}
use Rattle.jiff_fmt.proofs.ReaderLemmas.{ten_pow-pos}
use Rattle.std.proofs.lemmas.Nat.{pow-add, div_below}
use Rattle.civil_time.proofs.DateLemmas.{dates_are_of_the_calendar}
use Rattle.civil_time.proofs.StampLemmas.{instant_day}
use Rattle.civil_time.proofs.DifferLemmas.{whole_same, instant_parts}
use Rattle.civil_time.specs.Scale.{start_of_day, scale_zero, day_nanos, IsInstant}
use Rattle.civil_time.specs.CivilDate.{CivilDate, date_of_day}
use Rattle.civil_time.specs.Columns.{columns}
use Rattle.civil_time.specs.InstantText.{fixed_digits, date_text, clock_text, instant_text, day_of_instant, nanos_of_day, IsWholeIn}
use Rattle.civil_time.specs.Utc.{without_z, utc_without_z, utc_value, is_form, is_date_form, is_clock_form, is_decimals_form, has_month, date_width, is_day, is_clock, day_at, seconds_at, decimals_at, moment_at}
use Rattle.civil_time.proofs.TextLemmas.{length-fixed_digits}
use Rattle.civil_time.proofs.DigitLemmas.{all_fixed, value_fixed, digits_there, number_there}

-- a text without its `Z`
abbrev body : (y m d hour minute second : ℕ) (decimals : List ℕ) → List ℕ
body y m d hour minute second decimals =
    fixed_digits 4 y ++ 45 ∷ (fixed_digits 2 m ++ 45 ∷ (fixed_digits 2 d ++ 84 ∷ (fixed_digits 2 hour ++ 58 ∷ (fixed_digits 2 minute ++ 58 ∷ (fixed_digits 2 second ++ 46 ∷ decimals)))))

-- its columns
record HasColumns (y m d hour minute second : ℕ) (decimals text : List ℕ) : Type 0 where
  the_year : columns 0 4 text ≡ fixed_digits 4 y
  after_year : slice_index text 4 ≡ 45
  the_month : columns 5 2 text ≡ fixed_digits 2 m
  after_month : slice_index text 7 ≡ 45
  the_day : columns 8 2 text ≡ fixed_digits 2 d
  after_day : slice_index text 10 ≡ 84
  the_hour : columns 11 2 text ≡ fixed_digits 2 hour
  after_hour : slice_index text 13 ≡ 58
  the_minute : columns 14 2 text ≡ fixed_digits 2 minute
  after_minute : slice_index text 16 ≡ 58
  the_second : columns 17 2 text ≡ fixed_digits 2 second
  rest : drop 19 text ≡ 46 ∷ decimals

has_columns : (y m d hour minute second : ℕ) (decimals : List ℕ) → HasColumns y m d hour minute second decimals (body y m d hour minute second decimals)
unfolding fixed_digits
has_columns y m d hour minute second decimals =
    record { the_year = refl; after_year = refl; the_month = refl; after_month = refl; the_day = refl; after_day = refl; the_hour = refl; after_hour = refl; the_minute = refl; after_minute = refl; the_second = refl; rest = refl }

-- the text has the form
month_there : (y m d hour minute second : ℕ) (decimals text : List ℕ) → HasColumns y m d hour minute second decimals text → has_month text ≡ true
unfolding has_month
month_there y m d hour minute second decimals text h = eq-eqb _ _ h.after_month

width_there : (text : List ℕ) → has_month text ≡ true → date_width text ≡ 10
unfolding date_width
width_there text e = rw e refl

date_there : (y m d hour minute second : ℕ) (decimals text : List ℕ) → HasColumns y m d hour minute second decimals text → is_date_form text ≡ true
unfolding is_date_form
date_there y m d hour minute second decimals text h =
    let month = month_there y m d hour minute second decimals text h in
    let dash : (slice_index text 4 == 45) ≡ true = eq-eqb _ _ h.after_year in
    rw (digits_there 0 4 y text h.the_year, dash, month, digits_there 5 2 m text h.the_month, digits_there 8 2 d text h.the_day) refl

clock_there : (y m d hour minute second : ℕ) (decimals text : List ℕ) → HasColumns y m d hour minute second decimals text → is_clock_form 10 text ≡ true
unfolding is_clock_form
clock_there y m d hour minute second decimals text h =
    let letter : (slice_index text 10 == 84) ≡ true = eq-eqb _ _ h.after_day in
    let colon : (slice_index text 13 == 58) ≡ true = eq-eqb _ _ h.after_hour in
    let next : (slice_index text 16 == 58) ≡ true = eq-eqb _ _ h.after_minute in
    rw (letter, digits_there 11 2 hour text h.the_hour, colon, digits_there 14 2 minute text h.the_minute, next, digits_there 17 2 second text h.the_second) refl

decimals_there : (count q : ℕ) → 1 ≤ count → count ≤ 9 → is_decimals_form (46 ∷ fixed_digits count q) ≡ true
unfolding is_decimals_form
decimals_there count q low high =
    let long : length (fixed_digits count q) ≡ count = length-fixed_digits count q in
    let within : is_in_range 2 10 (suc count) ≡ true = grind (arith, nat_tests, low, high) in
    let some : (suc count == 0) ≡ false = ne_eqb _ _ (λ e. omega arith) in
    rw (long, some, within, all_fixed count q) refl

form_there : (y m d hour minute second count q : ℕ) (text : List ℕ) → 1 ≤ count → count ≤ 9 → HasColumns y m d hour minute second (fixed_digits count q) text → is_form text ≡ true
unfolding is_form
form_there y m d hour minute second count q text low high h =
    let decimals = fixed_digits count q in
    let width = width_there text (month_there y m d hour minute second decimals text h) in
    rw (width, date_there y m d hour minute second decimals text h, clock_there y m d hour minute second decimals text h, h.rest, decimals_there count q low high) refl

-- the day is in the calendar, and the clock shows the time
day_there : (y m d hour minute second : ℕ) (decimals text : List ℕ) → y < 10000 → IsCivilDate (pos y) m d → HasColumns y m d hour minute second decimals text → (is_day text ≡ true) × (day_at text ≡ days_from_civil (pos y) m d)
unfolding is_day day_at
day_there y m d hour minute second decimals text small date h =
    let long = (days_in_month_bounds (pos y) m).0 in
    let month = month_there y m d hour minute second decimals text h in
    let a = number_there 0 4 y text small h.the_year in
    let b = number_there 5 2 m text (omega (arith, date.1)) h.the_month in
    let c = number_there 8 2 d text (omega (arith, date.2, long)) h.the_day in
    let months : is_in_range 1 12 m ≡ true = grind (arith, nat_tests, date.1) in
    let days : is_in_range 1 (days_in_month (pos y) m) d ≡ true = grind (arith, nat_tests, date.2) in
    (rw (month, a, b, c, months, days) refl, rw (month, a, b, c) refl)

time_there : (y m d hour minute second : ℕ) (decimals text : List ℕ) → hour < 24 → minute < 60 → second < 60 → HasColumns y m d hour minute second decimals text → (is_clock 10 text ≡ true) × (seconds_at 10 text ≡ hour * 3600 + minute * 60 + second)
unfolding is_clock seconds_at
time_there y m d hour minute second decimals text hours minutes seconds h =
    let a = number_there 11 2 hour text (omega arith) h.the_hour in
    let b = number_there 14 2 minute text (omega arith) h.the_minute in
    let c = number_there 17 2 second text (omega arith) h.the_second in
    let x : nat_lt hour 24 ≡ true = lt-ltb _ _ hours in
    let y : nat_lt minute 60 ≡ true = lt-ltb _ _ minutes in
    let z : nat_lt second 60 ≡ true = lt-ltb _ _ seconds in
    (rw (a, b, c, x, y, z) refl, rw (a, b, c) refl)

billionths_there : (count q : ℕ) → count ≤ 9 → q < 10 ^ count → decimals_at (46 ∷ fixed_digits count q) ≡ q * 10 ^ (9 - count)
unfolding decimals_at
billionths_there count q high small =
    let left : 10 - suc (length (fixed_digits count q)) ≡ 9 - count = omega (arith, length-fixed_digits count q) in
    rw (value_fixed count q small, left) refl

-- a text of these columns is read as their moment
read_there : (y m d hour minute second count q : ℕ) (text : List ℕ) → 1957 ≤ y → y ≤ 2056 → IsCivilDate (pos y) m d → hour < 24 → minute < 60 → second < 60 → 1 ≤ count → count ≤ 9 → q < 10 ^ count → HasColumns y m d hour minute second (fixed_digits count q) text → utc_without_z text ≡ Ok (start_of_day (days_from_civil (pos y) m d) +ℤ pos ((hour * 3600 + minute * 60 + second) * 1000000000 + q * 10 ^ (9 - count)))
unfolding utc_without_z moment_at
read_there y m d hour minute second count q text first last date hours minutes seconds low high small h =
    let decimals = fixed_digits count q in
    let width = width_there text (month_there y m d hour minute second decimals text h) in
    let form = form_there y m d hour minute second count q text low high h in
    let day = day_there y m d hour minute second decimals text (omega arith) date h in
    let time = time_there y m d hour minute second decimals text hours minutes seconds h in
    let year = number_there 0 4 y text (omega arith) h.the_year in
    let within : is_in_range 1957 2056 y ≡ true = grind (arith, nat_tests, first, last) in
    rw (form, day.0, width, time.0, year, within, day.1, time.1, h.rest, billionths_there count q high small) refl

-- a count of seconds and decimals, in the decimals' units
scaled_up : (a : ℤ) (w unit q : ℕ) → (a *ℤ pos w +ℤ pos q) *ℤ pos unit ≡ a *ℤ pos (w * unit) +ℤ pos (q * unit)
scaled_up a w unit q =
    let product = a *ℤ pos w in
    let sum = product +ℤ pos q in
    let s : up sum + down product ≡ up product + q + down sum = omega (arith, signed_arith) in
    let p : up product + down a * w ≡ up a * w + down product = omega (arith, signed_arith) in
    omega (arith, signed_arith, ap (λ x. x * unit) s, ap (λ x. x * unit) p)

-- seconds from the scale's zero and decimals are the instant, where the decimals write it in full
in_full : (count : ℕ) (n day : ℤ) (clock : ℕ) → count ≤ 9 → IsWholeIn count n → n ≡ day *ℤ pos day_nanos +ℤ pos clock -ℤ pos scale_zero → start_of_day day +ℤ pos (clock / 1000000000 * 1000000000 + clock % 1000000000 / 10 ^ (9 - count) * 10 ^ (9 - count)) ≡ n
in_full count n day clock few whole e =
    let unit = 10 ^ (9 - count) in
    let q = clock % 1000000000 / unit in
    let seconds = clock / 1000000000 in
    let positive = ten_pow-pos (9 - count) in
    let nine : count + (9 - count) ≡ 9 = omega arith in
    let all : 10 ^ count * unit ≡ 1000000000 = rw nine at (sym (pow-add 10 count (9 - count))) in
    let left = mod-lt (clock % 1000000000) positive in
    let split = div-add-mod' (clock % 1000000000) unit in
    let units = day *ℤ pos 86400 +ℤ pos seconds -ℤ pos 946728000 in
    let moment : start_of_day day +ℤ pos (seconds * 1000000000 + q * unit) ≡ units *ℤ pos 1000000000 +ℤ pos (q * unit) = omega (arith, signed_arith) in
    let scaled : start_of_day day +ℤ pos (seconds * 1000000000 + q * unit) ≡ (units *ℤ pos (10 ^ count) +ℤ pos q) *ℤ pos unit = moment ∙ sym (rw all at (scaled_up units (10 ^ count) unit q)) in
    whole_same _ n unit _ whole.0 scaled whole.1 (omega (arith, signed_arith, moment, left, split)) (omega (arith, signed_arith, moment, left, split))

without_z_there : (xs : List ℕ) → without_z (xs ++ 90 ∷ []) ≡ xs
unfolding without_z
without_z_there xs =
    let last : length (xs ++ 90 ∷ []) - 1 ≡ length xs = omega (arith, length-append xs (90 ∷ [])) in
    let mark : (slice_index (xs ++ 90 ∷ []) (length xs) == 90) ≡ true = eq-eqb _ _ (get_or-append_seam xs 90 [] 0) in
    rw (last, mark) (take-append_seam xs (90 ∷ []))

-- the text of an instant is its body and the mark
text_is_body : (count : ℕ) (date : CivilDate) (clock : ℕ) → date_text date ++ codes "T" ++ clock_text count clock ++ codes "Z" ≡ body date.year date.month date.day (clock / 3600000000000) (clock / 60000000000 % 60) (clock / 1000000000 % 60) (fixed_digits count (clock % 1000000000 / 10 ^ (9 - count))) ++ 90 ∷ []
unfolding date_text clock_text
text_is_body count date clock = simp append_assoc refl

pub texts_are_read_back : (count : ℕ) (n : ℤ) → 1 ≤ count → count ≤ 9 → IsInstant n → IsWholeIn count n → utc_value (instant_text count n) ≡ Ok n
unfolding utc_value instant_text
texts_are_read_back count n low high h whole =
    let day = day_of_instant n in
    let clock = nanos_of_day n in
    let date = date_of_day day in
    let unit = 10 ^ (9 - count) in
    let q = clock % 1000000000 / unit in
    let parts = instant_parts n in
    let is = dates_are_of_the_calendar day (instant_day n h) in
    let positive = ten_pow-pos (9 - count) in
    let nine : count + (9 - count) ≡ 9 = omega arith in
    let all : 10 ^ count * unit ≡ 1000000000 = rw nine at (sym (pow-add 10 count (9 - count))) in
    let small : q < 10 ^ count = div_below (clock % 1000000000) unit (10 ^ count) positive (omega (arith, all)) in
    let text = body date.year date.month date.day (clock / 3600000000000) (clock / 60000000000 % 60) (clock / 1000000000 % 60) (fixed_digits count q) in
    let columns = has_columns date.year date.month date.day (clock / 3600000000000) (clock / 60000000000 % 60) (clock / 1000000000 % 60) (fixed_digits count q) in
    let read = read_there date.year date.month date.day (clock / 3600000000000) (clock / 60000000000 % 60) (clock / 1000000000 % 60) count q text (omega (arith, signed_arith, is.of_the_years)) (omega (arith, signed_arith, is.of_the_years)) is.of_the_calendar (omega (arith, parts.1)) (omega arith) (omega arith) low high small columns in
    let seconds : clock / 3600000000000 * 3600 + clock / 60000000000 % 60 * 60 + clock / 1000000000 % 60 ≡ clock / 1000000000 = omega arith in
    let full = in_full count n day clock high whole parts.0 in
    rw (text_is_body count date clock, without_z_there text, read, is.numbered, seconds, full) refl
