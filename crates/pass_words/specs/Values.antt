-- The values that the words give for keys.
use Rattle.std.specs.Prelude.{ℕ, List, ℤ, Result, unwrap_or}
use Rattle.decimals.specs.Decimal.{DecimalRecord}
use Rattle.civil_time.specs.Utc.{utc_value}
use Rattle.decimals.specs.DecimalText.{decimal_value}
use Rattle.elements.specs.Window.{WindowRecord}
use Rattle.pass_words.specs.declared.fault.WordFault.{WordFault}
use Rattle.pass_words.specs.declared.key.Opt.{Opt}
use Rattle.pass_words.specs.declared.key.Opt.TheVariants.{Start, End, Res}
use Rattle.pass_words.specs.declared.part.Part.{Part}
use Rattle.pass_words.specs.Counts.{count_read}
use Rattle.pass_words.specs.Degrees.{degrees_read}
use Rattle.pass_words.specs.Digits.{plain_number, short_number}
use Rattle.pass_words.specs.Faults.{of_usage, of_window}
use Rattle.pass_words.specs.Instants.{instant_read}
use Rattle.pass_words.specs.Number.{number_value}
use Rattle.pass_words.specs.Placed.{text_of}
use Rattle.pass_words.specs.Places.{Places}
use Rattle.pass_words.specs.Windows.{window_value}

-- the decimal from one whole number to another that a key's value writes
abbrev pub degrees_given : List (List ℕ) → Places → Opt → ℤ → ℤ → Result DecimalRecord WordFault
degrees_given words places key low high =
    of_usage (degrees_read key low high (decimal_value (text_of words places key)))

-- the window of the values of `start`, `end` and `res`
abbrev pub window_given : List (List ℕ) → Places → Result WindowRecord WordFault
window_given words places =
    of_window (window_value (text_of words places Start) (text_of words places End) (text_of words places Res))

-- the instant of a key's value
abbrev pub instant_given : List (List ℕ) → Places → Opt → Result ℤ WordFault
instant_given words places key = of_window (instant_read (utc_value (text_of words places key)))

-- the number that a key's value writes in one to nine digits
abbrev pub number_given : List (List ℕ) → Places → Opt → Result ℕ WordFault
number_given words places key = of_usage (number_value key (text_of words places key))

-- the number from 1 to the most that a key's value writes in one or two digits
abbrev pub short_count_given : List (List ℕ) → Places → Opt → ℕ → Result ℕ WordFault
short_count_given words places key most = of_usage (count_read key most (short_number (text_of words places key)))

-- the number from 1 to the most that a key's value writes in digits without a leading zero
abbrev pub plain_count_given : List (List ℕ) → Places → Opt → ℕ → Result ℕ WordFault
plain_count_given words places key most = of_usage (count_read key most (plain_number (text_of words places key)))

-- where a key's value stands. That of a key without a value is never asked for.
abbrev pub part_given : Places → Opt → Part
part_given places key = unwrap_or (places key) (record { word = 0; from = 0 })
