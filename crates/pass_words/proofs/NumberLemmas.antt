-- Powers of ten, and the numbers that digits write.
use Rattle.std.proofs.Common.{◌≡◌, ℕ, ◌+◌, ◌-◌, ◌*◌, ◌^◌, ◌<◌, ◌≤◌, true, List, length, get_or, arith}
use Rattle.std.specs.Char.{is_ascii_digit}
use Rattle.std.specs.List.{list_all}
use Rattle.std.proofs.lemmas.Bool.Decides.{nat_tests}
use Rattle.std.proofs.lemmas.List.Sums.{AllPass-from_list_all}
use Rattle.std.proofs.Math.Nat.{pow-le-pow_right}
use Rattle.std.proofs.lemmas.Nat.{pow-add}

-- powers of ten
pub ten_pow_le : (k most : ℕ) → k ≤ most → 10 ^ k ≤ 10 ^ most
ten_pow_le k most h = pow-le-pow_right {n = 10} (omega arith) h

-- one digit more: the number stays below a power of ten
pub digit_more : (n i d : ℕ) → n + 1 ≤ 10 ^ i → d ≤ 9 → n * 10 + d + 1 ≤ 10 ^ (i + 1)
digit_more n i d h j = let more : 10 ^ (i + 1) ≡ 10 ^ i * 10 ^ 1 = pow-add 10 i 1 in omega arith

-- a byte of digits, as the number that it writes
small : (byte : ℕ) → is_ascii_digit byte ≡ true → byte - 48 ≤ 9
small byte h = grind (arith, nat_tests, h)

pub digit_at : (digits : List ℕ) (i : ℕ) → list_all is_ascii_digit digits ≡ true → i < length digits → get_or digits i 0 - 48 ≤ 9
digit_at digits i h inside = small (get_or digits i 0) (AllPass-from_list_all is_ascii_digit digits h i 0 inside)
