-- Powers of ten, and the numbers that digits write.
use Rattle.std.proofs.Common.{◌≡◌, ℕ, ◌+◌, ◌-◌, ◌*◌, ◌^◌, ◌<◌, ◌≤◌, true, List, length, get_or, sym, arith}
use Rattle.std.specs.Char.{is_ascii_digit}
use Rattle.std.specs.List.{list_all}
use Rattle.std.proofs.lemmas.Bool.Decides.{nat_tests}
use Rattle.std.proofs.lemmas.List.Sums.{AllPass-from_list_all}
use Rattle.std.proofs.Math.Nat.{pow-le-pow_right, mul-le-mul_left, mul_assoc}
use Rattle.std.proofs.lemmas.Nat.{pow-add}

-- ten to a power of at most nine
pub ten_pow_le : (k : ℕ) → k ≤ 9 → 10 ^ k ≤ 1_000_000_000
ten_pow_le k h = pow-le-pow_right {n = 10} (omega arith) h

-- one digit more: the number stays below a power of ten
ten_more : (m i : ℕ) → m * 10 ^ (i + 1) ≡ m * 10 ^ i * 10
ten_more m i = rw (pow-add 10 i 1) (sym (mul_assoc m (10 ^ i) 10))

pub digit_more : (n m i d : ℕ) → n + 1 ≤ m * 10 ^ i → d ≤ 9 → n * 10 + d + 1 ≤ m * 10 ^ (i + 1)
digit_more n m i d h j = let more = ten_more m i in omega arith

-- and there is room for it
pub digit_room : (n m i count : ℕ) → n + 1 ≤ m * 10 ^ i → i < count → m * 10 ^ count ≤ 2 ^ 63 → n * 10 + 10 ≤ 2 ^ 63
digit_room n m i count h j most =
    let more = ten_more m i in
    let below : m * 10 ^ (i + 1) ≤ m * 10 ^ count = mul-le-mul_left m (pow-le-pow_right {n = 10} (omega arith) (omega arith)) in
    omega arith

-- a byte of digits, as the number that it writes
small : (byte : ℕ) → is_ascii_digit byte ≡ true → byte - 48 ≤ 9
small byte h = grind (arith, nat_tests, h)

pub digit_at : (digits : List ℕ) (i : ℕ) → list_all is_ascii_digit digits ≡ true → i < length digits → get_or digits i 0 - 48 ≤ 9
digit_at digits i h inside = small (get_or digits i 0) (AllPass-from_list_all is_ascii_digit digits h i 0 inside)
