-- Powers of ten, and the numbers that digits write.
use Rattle.std.proofs.Common.{◌≡◌, ℕ, ◌+◌, ◌-◌, ◌*◌, ◌^◌, ◌<◌, ◌≤◌, true, List, [], ◌∷◌, ◌++◌, length, get_or, refl, sym, arith}
use Rattle.std.specs.Char.{is_ascii_digit, digit_value}
use Rattle.std.specs.List.{list_all}
use Rattle.std.specs.Str.Parse.{digits_value_after}
use Rattle.std.proofs.lemmas.Bool.Decides.{nat_tests}
use Rattle.std.proofs.lemmas.List.Sums.{AllPass-from_list_all}
use Rattle.std.proofs.Math.Nat.{pow-le-pow_right, mul-le-mul_left, mul-le-mul_right, mul_assoc}
use Rattle.std.proofs.lemmas.Nat.{mul-le, pow-add}

-- ten to a power of at most twelve
pub ten_pow_le : (k : ℕ) → k ≤ 12 → 10 ^ k ≤ 1_000_000_000_000
ten_pow_le k h = pow-le-pow_right {n = 10} (omega arith) h

-- ten to a power of at most eleven
pub ten_pow_short : (k : ℕ) → k ≤ 11 → 10 ^ k ≤ 100_000_000_000
ten_pow_short k h = pow-le-pow_right {n = 10} (omega arith) h

-- five digits times ten to a power of one digit
pub power_fits : (n k : ℕ) → n < 10 ^ 5 → k ≤ 9 → n * 10 ^ k < 1_000_000_000_000_000
power_fits n k h j =
    let most : 10 ^ k ≤ 1_000_000_000 = pow-le-pow_right {n = 10} (omega arith) j in
    let room : n * 10 ^ k ≤ 100_000 * 1_000_000_000 = mul-le n (10 ^ k) 100_000 1_000_000_000 (omega arith) most in
    omega arith

-- one digit more: the number stays below a power of ten
ten_more : (m i : ℕ) → m * 10 ^ (i + 1) ≡ m * 10 ^ i * 10
ten_more m i = rw (pow-add 10 i 1) (sym (mul_assoc m (10 ^ i) 10))

pub digit_more : (n m i d : ℕ) → n + 1 ≤ m * 10 ^ i → d ≤ 9 → n * 10 + d + 1 ≤ m * 10 ^ (i + 1)
digit_more n m i d h j = let more = ten_more m i in omega arith

-- and there is room for it
pub digit_room : (n m i count : ℕ) → n + 1 ≤ m * 10 ^ i → i < count → m * 10 ^ count ≤ 2 ^ 63 → n * 10 + 10 ≤ 2 ^ 63
digit_room n m i count h j most =
    let more = ten_more m i in
    let below : m * 10 ^ (i + 1) ≤ m * 10 ^ count = mul-le-mul_left m (pow-le-pow_right {n = 10} (omega arith) (omega arith)) in
    omega arith

-- a byte of digits, as the number that it writes
small : (byte : ℕ) → is_ascii_digit byte ≡ true → byte - 48 ≤ 9
small byte h = grind (arith, nat_tests, h)

pub digit_at : (digits : List ℕ) (i : ℕ) → list_all is_ascii_digit digits ≡ true → i < length digits → get_or digits i 0 - 48 ≤ 9
digit_at digits i h inside = small (get_or digits i 0) (AllPass-from_list_all is_ascii_digit digits h i 0 inside)

-- the number of digits and more digits
pub value_after : (n : ℕ) (xs ys : List ℕ) → digits_value_after 10 n (xs ++ ys) ≡ digits_value_after 10 (digits_value_after 10 n xs) ys
value_after n [] ys = refl
value_after n (x ∷ xs) ys = value_after (n * 10 + digit_value x) xs ys

-- a number and more digits have room where all digits have
pub joined_room : (n a p : ℕ) → n < 10 ^ a → a + p ≤ 12 → (n + 1) * 10 ^ p ≤ 1_000_000_000_000
joined_room n a p h few =
    let all : (n + 1) * 10 ^ p ≤ 10 ^ a * 10 ^ p = mul-le-mul_right (10 ^ p) (next n (10 ^ a) h) in
    let most = ten_pow_le (a + p) few in
    omega (arith, pow-add 10 a p)
  where
    next : (n m : ℕ) → n < m → n + 1 ≤ m
    next n m h = omega arith

-- fewer digits write a number below the power of ten of more
pub below_power : (n k j : ℕ) → n < 10 ^ k → k ≤ j → n < 10 ^ j
below_power n k j h few = let most : 10 ^ k ≤ 10 ^ j = pow-le-pow_right {n = 10} (omega arith) few in omega arith
