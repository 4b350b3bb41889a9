-- The text of an instant: `YYYY-MM-DDThh:mm:ss`, a point, decimals of the second, and `Z`.
use Rattle.std.specs.Prelude.{◌≡◌, List, [], ◌∷◌, ◌++◌, codes, ℕ, zero, suc, ◌+◌, ◌-◌, ◌/◌, ◌%◌, ◌^◌, ◌≤◌, ℤ, pos, ◌+ℤ◌, ◌*ℤ◌, unsigned_abs}
use Rattle.std.specs.Int.{int_div_euclid, int_rem_euclid}
use Rattle.civil_time.specs.Scale.{scale_zero, day_nanos, IsInstant}
use Rattle.civil_time.specs.CivilDate.{CivilDate, date_of_day}

-- the last so many decimal digits of a number, with zeros in front where it has fewer
unfoldable pub fixed_digits : ℕ → ℕ → List ℕ
fixed_digits zero n = []
fixed_digits (suc count) n = (48 + n / 10 ^ count % 10) ∷ fixed_digits count n

-- the day of an instant, by its number from 1970-01-01
abbrev pub day_of_instant : ℤ → ℤ
day_of_instant nanos = int_div_euclid (nanos +ℤ pos scale_zero) (pos day_nanos)

-- the nanoseconds of an instant since its day began
abbrev pub nanos_of_day : ℤ → ℕ
nanos_of_day nanos = unsigned_abs (int_rem_euclid (nanos +ℤ pos scale_zero) (pos day_nanos))

-- `YYYY-MM-DD`
unfoldable pub date_text : CivilDate → List ℕ
date_text date = fixed_digits 4 date.year ++ codes "-" ++ fixed_digits 2 date.month ++ codes "-" ++ fixed_digits 2 date.day

-- `hh:mm:ss` and so many decimals of a second, of the nanoseconds since midnight
unfoldable pub clock_text : ℕ → ℕ → List ℕ
clock_text places nanos =
    fixed_digits 2 (nanos / 3_600_000_000_000) ++ codes ":"
    ++ fixed_digits 2 (nanos / 60_000_000_000 % 60) ++ codes ":"
    ++ fixed_digits 2 (nanos / 1_000_000_000 % 60) ++ codes "."
    ++ fixed_digits places (nanos % 1_000_000_000 / 10 ^ (9 - places))

-- the text of an instant with so many decimals of a second
unfoldable pub instant_text : ℕ → ℤ → List ℕ
instant_text places nanos =
    date_text (date_of_day (day_of_instant nanos)) ++ codes "T"
    ++ clock_text places (nanos_of_day nanos) ++ codes "Z"

-- the instant is a whole number of units of the last of so many decimals
abbrev pub IsWholeIn : ℕ → ℤ → Type 0
IsWholeIn places nanos = (units : ℤ) × (nanos ≡ units *ℤ pos (10 ^ (9 - places)))

-- instants that their decimals write in full have texts of their own
abbrev pub TextsOfInstantsDiffer : Type 0
TextsOfInstantsDiffer =
    (places : ℕ) (a b : ℤ) → places ≤ 9 → IsInstant a → IsInstant b → IsWholeIn places a → IsWholeIn places b
    → instant_text places a ≡ instant_text places b → a ≡ b
