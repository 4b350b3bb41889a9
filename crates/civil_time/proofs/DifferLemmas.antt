-- Instants that their decimals write in full have texts of their own.
use Rattle.std.proofs.Common.{drop, ◌≡◌, ℕ, ◌+◌, ◌-◌, ◌*◌, ◌/◌, ◌%◌, ◌^◌, ◌<◌, ◌≤◌, refl, sym, ap, ◌∙◌, arith, [], ◌∷◌, ◌++◌, codes, ℤ, pos, ◌+ℤ◌, ◌-ℤ◌, ◌*ℤ◌, ◌<ℤ◌, ◌≤ℤ◌}
use borrow.Author.Differences.{up, down}
use Rattle.std.proofs.lemmas.Int.{by_lt_z}
use Rattle.std.proofs.lemmas.List.{append_assoc}
use Rattle.std.proofs.Math.Nat.{mul-le-mul_right, mod-lt, div-add-mod', mod-eq_of_lt}
use Rattle.std.proofs.lemmas.Nat.{div_below, pow-add}
use Rattle.jiff_core.proofs.SignedLemmas.{signed_arith, int_div_euclid-parts, int_rem_euclid-parts}
use Rattle.jiff_core.proofs.CalendarLemmas.{days_in_month_bounds}
use Rattle.jiff_fmt.proofs.ReaderLemmas.{ten_pow-pos}
use Rattle.civil_time.specs.Scale.{IsInstantDay, scale_zero, day_nanos, IsInstant}
use Rattle.civil_time.specs.CivilDate.{CivilDate, date_of_day}
use Rattle.civil_time.specs.InstantText.{fixed_digits, date_text, clock_text, instant_text, day_of_instant, nanos_of_day, IsWholeIn}
use Rattle.civil_time.proofs.DateLemmas.{dates_are_of_the_calendar}
use Rattle.civil_time.proofs.StampLemmas.{instant_day}
use Rattle.civil_time.proofs.TextLemmas.{fixed_digits-then}

-- of two counts of one unit, the larger is larger by a unit at least
unit_apart : (x y : ℤ) (unit : ℕ) → x <ℤ y → (x *ℤ pos unit +ℤ pos unit) ≤ℤ (y *ℤ pos unit)
unit_apart x y unit h =
    let more : up x + down y + 1 ≤ up y + down x = omega (arith, signed_arith) in
    omega (arith, signed_arith, mul-le-mul_right unit more)

-- numbers of whole units that differ by less than a unit are equal
pub whole_same : (a b : ℤ) (unit : ℕ) (x y : ℤ) → a ≡ x *ℤ pos unit → b ≡ y *ℤ pos unit → a <ℤ (b +ℤ pos unit) → b <ℤ (a +ℤ pos unit) → a ≡ b
whole_same a b unit x y e f low high =
    by_lt_z x y (λ lt. absurd (omega (arith, signed_arith, unit_apart x y unit lt)))
    (λ ge. by_lt_z y x (λ gt. absurd (omega (arith, signed_arith, unit_apart y x unit gt)))
    (λ le. let same : x ≡ y = omega (arith, signed_arith) in e ∙ ap (λ z. z *ℤ pos unit) same ∙ sym f))

-- the text of an instant is its numbers in order
flat : (count : ℕ) (date : CivilDate) (clock : ℕ) → date_text date ++ codes "T" ++ clock_text count clock ++ codes "Z" ≡ fixed_digits 4 date.year ++ 45 ∷ (fixed_digits 2 date.month ++ 45 ∷ (fixed_digits 2 date.day ++ 84 ∷ (fixed_digits 2 (clock / 3600000000000) ++ 58 ∷ (fixed_digits 2 (clock / 60000000000 % 60) ++ 58 ∷ (fixed_digits 2 (clock / 1000000000 % 60) ++ 46 ∷ (fixed_digits count (clock % 1000000000 / 10 ^ (9 - count)) ++ 90 ∷ []))))))
unfolding date_text clock_text
flat count date clock = simp append_assoc refl

-- the parts of two texts that are one
record IsSameText (count : ℕ) (d e : CivilDate) (s t : ℕ) : Type 0 where
  year : d.year % 10000 ≡ e.year % 10000
  month : d.month % 100 ≡ e.month % 100
  day : d.day % 100 ≡ e.day % 100
  hour : s / 3600000000000 % 100 ≡ t / 3600000000000 % 100
  minute : s / 60000000000 % 60 % 100 ≡ t / 60000000000 % 60 % 100
  second : s / 1000000000 % 60 % 100 ≡ t / 1000000000 % 60 % 100
  decimals : s % 1000000000 / 10 ^ (9 - count) % 10 ^ count ≡ t % 1000000000 / 10 ^ (9 - count) % 10 ^ count

same_parts : (count : ℕ) (d e : CivilDate) (s t : ℕ) → date_text d ++ codes "T" ++ clock_text count s ++ codes "Z" ≡ date_text e ++ codes "T" ++ clock_text count t ++ codes "Z" → IsSameText count d e s t
same_parts count d e s t h =
    let year = fixed_digits-then 4 d.year e.year _ _ (sym (flat count d s) ∙ h ∙ flat count e t) in
    let month = fixed_digits-then 2 d.month e.month _ _ (ap (drop 1) year.1) in
    let day = fixed_digits-then 2 d.day e.day _ _ (ap (drop 1) month.1) in
    let hour = fixed_digits-then 2 (s / 3600000000000) (t / 3600000000000) _ _ (ap (drop 1) day.1) in
    let minute = fixed_digits-then 2 (s / 60000000000 % 60) (t / 60000000000 % 60) _ _ (ap (drop 1) hour.1) in
    let second = fixed_digits-then 2 (s / 1000000000 % 60) (t / 1000000000 % 60) _ _ (ap (drop 1) minute.1) in
    let decimals = fixed_digits-then count (s % 1000000000 / 10 ^ (9 - count)) (t % 1000000000 / 10 ^ (9 - count)) _ _ (ap (drop 1) second.1) in
    record { year = year.0; month = month.0; day = day.0; hour = hour.0; minute = minute.0; second = second.0; decimals = decimals.0 }

-- an instant is its day and the nanoseconds since it began
pub instant_parts : (n : ℤ) → (n ≡ day_of_instant n *ℤ pos day_nanos +ℤ pos (nanos_of_day n) -ℤ pos scale_zero) × (nanos_of_day n < day_nanos)
instant_parts n =
    let shifted = n +ℤ pos scale_zero in
    let quotient = int_div_euclid-parts shifted day_nanos (omega arith) in
    let rest = int_rem_euclid-parts shifted day_nanos (omega arith) in
    (omega (arith, signed_arith, rest), omega (arith, signed_arith, rest))

-- instants of one day, whose seconds and decimals are the same, differ by less than the last decimal
clocks_near : (count s t : ℕ) → count ≤ 9 → s < day_nanos → t < day_nanos → (d e : CivilDate) → IsSameText count d e s t → s < t + 10 ^ (9 - count)
clocks_near count s t few low high d e same =
    let unit = 10 ^ (9 - count) in
    let whole = 10 ^ count in
    let positive = ten_pow-pos (9 - count) in
    let nine : count + (9 - count) ≡ 9 = omega arith in
    let all : 10 ^ count * 10 ^ (9 - count) ≡ 1000000000 = rw nine at (sym (pow-add 10 count (9 - count))) in
    let seconds : s / 1000000000 ≡ t / 1000000000 = omega (arith, same.hour, same.minute, same.second) in
    let small : s % 1000000000 / unit < whole = div_below (s % 1000000000) unit whole positive (omega (arith, all)) in
    let small_too : t % 1000000000 / unit < whole = div_below (t % 1000000000) unit whole positive (omega (arith, all)) in
    let decimals : s % 1000000000 / unit ≡ t % 1000000000 / unit = sym (mod-eq_of_lt small) ∙ same.decimals ∙ mod-eq_of_lt small_too in
    let left = mod-lt (s % 1000000000) positive in
    let left_too = mod-lt (t % 1000000000) positive in
    omega (arith, ap (λ q. q * unit) decimals, div-add-mod' (s % 1000000000) unit, div-add-mod' (t % 1000000000) unit)

-- dates with one text are one day's
days_same : (a b : ℤ) → IsInstantDay a → IsInstantDay b → (count s t : ℕ) → IsSameText count (date_of_day a) (date_of_day b) s t → a ≡ b
days_same a b h k count s t same =
    let d = date_of_day a in
    let e = date_of_day b in
    let is = dates_are_of_the_calendar a h in
    let is_too = dates_are_of_the_calendar b k in
    let long = (days_in_month_bounds (pos d.year) d.month).0 in
    let long_too = (days_in_month_bounds (pos e.year) e.month).0 in
    let low : d.year < 10000 = omega (arith, signed_arith, is.of_the_years) in
    let low_too : e.year < 10000 = omega (arith, signed_arith, is_too.of_the_years) in
    let year : d.year ≡ e.year = omega (arith, same.year) in
    let month : d.month ≡ e.month = omega (arith, same.month, is.of_the_calendar.1, is_too.of_the_calendar.1) in
    let day : d.day ≡ e.day = omega (arith, same.day, is.of_the_calendar.2, is_too.of_the_calendar.2) in
    sym is.numbered ∙ rw (year, month, day) refl ∙ is_too.numbered

-- the parts stay the same from the other side
turned : (count : ℕ) (d e : CivilDate) (s t : ℕ) → IsSameText count d e s t → IsSameText count e d t s
turned count d e s t h =
    record { year = sym h.year; month = sym h.month; day = sym h.day; hour = sym h.hour; minute = sym h.minute; second = sym h.second; decimals = sym h.decimals }

pub texts_differ : (count : ℕ) (a b : ℤ) → count ≤ 9 → IsInstant a → IsInstant b → IsWholeIn count a → IsWholeIn count b → instant_text count a ≡ instant_text count b → a ≡ b
unfolding instant_text
texts_differ count a b few h k x y e =
    let d = date_of_day (day_of_instant a) in
    let f = date_of_day (day_of_instant b) in
    let s = nanos_of_day a in
    let t = nanos_of_day b in
    let same = same_parts count d f s t e in
    let day = days_same (day_of_instant a) (day_of_instant b) (instant_day a h) (instant_day b k) count s t same in
    let near = clocks_near count s t few (instant_parts a).1 (instant_parts b).1 d f same in
    let near_too = clocks_near count t s few (instant_parts b).1 (instant_parts a).1 f d (turned count d f s t same) in
    whole_same a b (10 ^ (9 - count)) x.0 y.0 x.1 y.1 (omega (arith, signed_arith, (instant_parts a).0, (instant_parts b).0)) (omega (arith, signed_arith, (instant_parts a).0, (instant_parts b).0))
