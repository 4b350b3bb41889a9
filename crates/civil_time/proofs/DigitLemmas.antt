-- The digits that are written of a number are read as the number.
use Rattle.std.specs.Int.{IsInRange}
use Rattle.std.specs.Char.{is_ascii_digit, digit_value}
use Rattle.std.specs.List.{list_all}
use Rattle.std.specs.Str.Parse.{digits_value, digits_value_after}
use Rattle.std.proofs.Common.{length, ◌≡◌, ℕ, zero, suc, ◌+◌, ◌*◌, ◌/◌, ◌%◌, ◌^◌, ◌<◌, true, ◌==◌, refl, ◌∙◌, arith, List}
use Rattle.std.proofs.Common.{eq-eqb}
use Rattle.jiff_fmt.proofs.ReaderLemmas.{tenth}
use Rattle.std.proofs.lemmas.Bool.Decides.{nat_tests}
use Rattle.std.proofs.lemmas.Str.{digit_value_digit}
use Rattle.std.proofs.Math.Nat.{mod-eq_of_lt}
use Rattle.civil_time.specs.Columns.{columns, are_digits, number_at}
use Rattle.civil_time.specs.InstantText.{fixed_digits}
use Rattle.civil_time.proofs.TextLemmas.{high_low, length-fixed_digits}

-- a digit
digit_in : (n : ℕ) → IsInRange 48 57 (48 + n % 10)
digit_in n = (omega arith, omega arith)

is_digit : (n : ℕ) → is_ascii_digit (48 + n % 10) ≡ true
is_digit n = grind (arith, nat_tests, digit_in n)

value_of_digit : (n : ℕ) → digit_value (48 + n % 10) ≡ n % 10
value_of_digit n = omega (arith, digit_value_digit (48 + n % 10) (digit_in n))

-- digits are digits
pub all_fixed : (count n : ℕ) → list_all is_ascii_digit (fixed_digits count n) ≡ true
unfolding fixed_digits
all_fixed zero n = refl
all_fixed (suc count) n = rw (is_digit (n / 10 ^ count), all_fixed count n) refl

-- and write the number
value_after_fixed : (count n front : ℕ) → digits_value_after 10 front (fixed_digits count n) ≡ front * 10 ^ count + n % 10 ^ count
unfolding fixed_digits
value_after_fixed zero n front = omega arith
value_after_fixed (suc count) n front =
    value_after_fixed count n (front * 10 + digit_value (48 + n / 10 ^ count % 10)) ∙ rw (value_of_digit (n / 10 ^ count), high_low count n, tenth (suc count) count refl) (omega arith)

pub value_fixed : (count n : ℕ) → n < 10 ^ count → digits_value 10 (fixed_digits count n) ≡ n
value_fixed count n h = value_after_fixed count n 0 ∙ rw (mod-eq_of_lt h) (omega arith)

-- columns that hold the digits of a number
pub digits_there : (from count n : ℕ) (text : List ℕ) → columns from count text ≡ fixed_digits count n → are_digits from count text ≡ true
unfolding are_digits
digits_there from count n text e =
    let same : (length (fixed_digits count n) == count) ≡ true = eq-eqb _ _ (length-fixed_digits count n) in
    rw (e, same, all_fixed count n) refl

pub number_there : (from count n : ℕ) (text : List ℕ) → n < 10 ^ count → columns from count text ≡ fixed_digits count n → number_at from count text ≡ n
unfolding number_at
number_there from count n text h e = rw e (value_fixed count n h)
