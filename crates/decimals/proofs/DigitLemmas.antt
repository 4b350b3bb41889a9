-- Texts of digits.
use Rattle.std.proofs.Common.{◌≡◌, arith, ℕ, zero, suc, ◌+◌, ◌-◌, ◌*◌, ◌/◌, ◌%◌, ◌^◌, ◌<◌, ◌≤◌, Bool, true, false, ◌&&◌, List, [], ◌∷◌, ◌++◌, length, replicate, decimal, position, None, refl, ◌∙◌, le-ltb, le-leb, leb-true}
use Rattle.std.specs.List.{list_all, position_or_len}
use Rattle.std.proofs.lemmas.List.{length-replicate, length-append}
use Rattle.std.proofs.lemmas.List.Folds.{list_all-append}
use Rattle.std.proofs.lemmas.List.Sums.{fold-append}
use Rattle.std.proofs.lemmas.Fmt.{decimal_by_steps}
use Rattle.std.proofs.Math.Nat.{pow-succ'}
use Rattle.decimals.specs.NumberText.{is_digit, number_after, number_written}
use Rattle.decimals.specs.PrintedDecimal.{padded}

pub and_left : (a b : Bool) → (a && b) ≡ true → a ≡ true
and_left true b e = refl
and_left false b e = e

and_right : (a b : Bool) → (a && b) ≡ true → b ≡ true
and_right true b e = e
and_right false b e = cc e

and_true : (a b : Bool) → a ≡ true → b ≡ true → (a && b) ≡ true
and_true a b p q = rw (p, q) refl

-- a digit's byte
pub digit_most : (byte : ℕ) → is_digit byte ≡ true → byte ≤ 57
digit_most byte e = leb-true byte 57 (and_right _ _ e)

pub digit_least : (byte : ℕ) → is_digit byte ≡ true → 48 ≤ byte
digit_least byte e = leb-true 48 byte (and_left _ _ e)

is_digit_of : (n : ℕ) → n < 10 → is_digit (48 + n) ≡ true
is_digit_of n small = and_true _ _ (le-leb 48 (48 + n) (omega arith)) (le-leb (48 + n) 57 (omega arith))

-- bytes that are digits and write the number
pub record Writes (n : ℕ) (bytes : List ℕ) : Type 0 where
  pub digits : list_all is_digit bytes ≡ true
  pub number : number_written bytes ≡ n
  pub some : 0 < length bytes

one_digit : (n : ℕ) → n < 10 → Writes n ((48 + n) ∷ [])
one_digit n small = record { digits = and_true _ _ (is_digit_of n small) refl; number = omega arith; some = omega arith }

more_digits : (n : ℕ) (bytes : List ℕ) → 10 ≤ n → Writes (n / 10) bytes → Writes n (bytes ++ ((48 + n % 10) ∷ []))
more_digits n bytes many h = record {
  digits = list_all-append is_digit bytes ((48 + n % 10) ∷ []) ∙ and_true _ _ h.digits (and_true _ _ (is_digit_of (n % 10) (omega arith)) refl);
  number = fold-append (λ number byte. number * 10 + (byte - 48)) 0 bytes ((48 + n % 10) ∷ []) ∙ rw h.number (omega arith);
  some = omega (arith, h.some, length-append {A = ℕ} bytes ((48 + n % 10) ∷ []));
}

-- a printed number
pub decimal_writes : (n : ℕ) → n < 2 ^ 64 → Writes n (decimal n)
decimal_writes = decimal_by_steps Writes one_digit more_digits

-- digits behind a number
pub number_behind : (n : ℕ) (bytes : List ℕ) → number_after n bytes ≡ n * 10 ^ length bytes + number_written bytes
number_behind n [] = omega arith
number_behind n (byte ∷ bytes) =
    let here = number_behind (n * 10 + (byte - 48)) bytes in
    let alone = number_behind (0 * 10 + (byte - 48)) bytes in
    let power : 10 ^ length (byte ∷ bytes) ≡ 10 * 10 ^ length bytes = pow-succ' 10 (length bytes) in
    rw (here, alone, power) (omega arith)

-- zeros in front
zeros_write : (count : ℕ) → number_written (replicate count 48) ≡ 0
zeros_write zero = refl
zeros_write (suc count) = zeros_write count

zeros_are_digits : (count : ℕ) → list_all is_digit (replicate count 48) ≡ true
zeros_are_digits zero = refl
zeros_are_digits (suc count) = zeros_are_digits count

-- a number in so many digits
pub padded_writes : (width n : ℕ) → n < 2 ^ 64 → Writes n (padded width n)
padded_writes width n small =
    let h = decimal_writes n small in
    let zeros = replicate (width - length (decimal n)) 48 in
    record {
      digits = list_all-append is_digit zeros (decimal n) ∙ and_true _ _ (zeros_are_digits (width - length (decimal n))) h.digits;
      number = fold-append (λ number byte. number * 10 + (byte - 48)) 0 zeros (decimal n) ∙ rw (zeros_write (width - length (decimal n))) h.number;
      some = omega (arith, h.some, length-append {A = ℕ} zeros (decimal n));
    }

pub padded_length : (width n : ℕ) → length (decimal n) ≤ width → length (padded width n) ≡ width
padded_length width n short = omega (arith, length-append {A = ℕ} (replicate (width - length (decimal n)) 48) (decimal n), length-replicate {A = ℕ} (width - length (decimal n)) 48)

-- ---- places

-- no digit is in the way of a byte that is none
pub past_digits : (p : ℕ → Bool) → ((byte : ℕ) → is_digit byte ≡ true → p byte ≡ false) → (xs ys : List ℕ) → list_all is_digit xs ≡ true → position_or_len p (xs ++ ys) ≡ length xs + position_or_len p ys
past_digits p none [] ys digits = omega arith
past_digits p none (x ∷ xs) ys digits =
    let here : p x ≡ false = none x (and_left (is_digit x) (list_all is_digit xs) digits) in
    let rest : position_or_len p (xs ++ ys) ≡ length xs + position_or_len p ys = past_digits p none xs ys (and_right (is_digit x) (list_all is_digit xs) digits) in
    rw here (omega (arith, rest))

pub position_none : (p : ℕ → Bool) (xs : List ℕ) → position_or_len p xs ≡ length xs → position p xs ≡ None
position_none p xs e = rw (le-ltb (position_or_len p xs) (length xs) (omega (arith, e))) refl
