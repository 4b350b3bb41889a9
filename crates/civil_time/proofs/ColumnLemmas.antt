-- Columns of texts, and the numbers that digits write.
use Rattle.std.proofs.Common.{◌≡◌, ℕ, ◌+◌, ◌-◌, ◌*◌, ◌^◌, ◌<◌, ◌≤◌, min, true, false, ◌==◌, refl, sym, ◌∙◌, arith, List, length, drop, ne_eqb}
use Rattle.std.proofs.lemmas.Bool.{and_parts, eqb-true}
use Rattle.std.proofs.lemmas.List.{length-take, length-drop}
use Rattle.std.specs.Char.{is_ascii_digit}
use Rattle.std.proofs.Math.Nat.{mul-le-mul_left, mul-le-mul_right}
use Rattle.std.proofs.lemmas.Nat.{pow-add}
use Rattle.jiff_fmt.proofs.ReaderLemmas.{ten_pow-pos}
use Rattle.std.specs.List.{list_all}
use Rattle.std.proofs.lemmas.Bool.Decides.{nat_tests}
use Rattle.civil_time.specs.Utc.{is_decimals_form}
use Rattle.civil_time.specs.Columns.{columns, are_digits}

pub length-columns : (from count : ℕ) (text : List ℕ) → length (columns from count text) ≡ min count (length text - from)
length-columns from count text = rw (length-take count (drop from text), length-drop from text) refl

-- a text that ends before does not have the columns
pub are_digits_short : (from count : ℕ) (text : List ℕ) → 1 ≤ count → length text < from + count → are_digits from count text ≡ false
unfolding are_digits
are_digits_short from count text some short =
    let less : (length (columns from count text) == count) ≡ false = ne_eqb _ _ (λ e. omega (arith, length-columns from count text)) in
    rw less refl

-- the text has columns with digits in them
pub are_digits_parts : (from count : ℕ) (text : List ℕ) → are_digits from count text ≡ true → (length (columns from count text) ≡ count) × (list_all is_ascii_digit (columns from count text) ≡ true)
unfolding are_digits
are_digits_parts from count text e =
    let parts = and_parts _ _ e in
    (eqb-true _ _ parts.0, parts.1)

-- a power of ten is at most a higher one
pub ten_pow-le : (k j : ℕ) → k ≤ j → 10 ^ k ≤ 10 ^ j
ten_pow-le k j h =
    let all : k + (j - k) ≡ j = omega arith in
    let split : 10 ^ j ≡ 10 ^ k * 10 ^ (j - k) = rw all at (pow-add 10 k (j - k)) in
    omega (arith, split, mul-le-mul_left (10 ^ k) (ten_pow-pos (j - k)))

-- a fraction of so many digits, in billionths
pub scaled : (n j k : ℕ) → n < 10 ^ j → j + k ≡ 9 → n * 10 ^ k < 1000000000
scaled n j k h e =
    let all : 10 ^ j * 10 ^ k ≡ 1000000000 = sym (pow-add 10 j k) ∙ rw e refl in
    omega (arith, all, mul-le-mul_right (10 ^ k) h, ten_pow-pos k)

-- a point and at most nine digits
pub decimals_length : (part : List ℕ) → is_decimals_form part ≡ true → length part ≤ 10
unfolding is_decimals_form
decimals_length part h = grind (arith, nat_tests, h)
