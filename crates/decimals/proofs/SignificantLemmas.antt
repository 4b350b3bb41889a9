-- Digits with one digit more behind them.
use Rattle.std.proofs.Common.{◌≡◌, arith, ℕ, suc, ◌+◌, ◌*◌, ◌%◌, ◌^◌, ◌<◌, ◌≤◌, ◌==◌, Bool, true, false, refl, eqb-true}
use Rattle.std.proofs.lemmas.Bool.{eqb-false}
use Rattle.std.proofs.lemmas.Nat.{mul-le}
use Rattle.std.proofs.Math.Nat.{mul_assoc, pow-suc, pow-le-pow_right, pos_of_ne-zero}
use Rattle.decimals.proofs.UnitsLemmas.{ten_pow_pos}
use Rattle.decimals.specs.Significant.{IsShort, IsLong}

-- another digit than 0 stays the last one
last_stays : (m digit : ℕ) → 0 < digit → digit < 10 → ¬ ((m * 10 + digit) % 10 ≡ 0)
last_stays m digit some small e = omega (arith, e)

as_it_is : (n : ℕ) → n ≡ n * 10 ^ 0
as_it_is n = omega arith

-- as digits alone
pub long_from_size : (m digit : ℕ) → 0 < digit → digit < 10 → 10 ^ 18 ≤ m * 10 + digit → IsLong (m * 10 + digit)
long_from_size m digit some small large =
    record { digits = m * 10 + digit; zeros = 0; number = as_it_is (m * 10 + digit); size = large; last_digit = last_stays m digit some small }

pub short_from_size : (m digit : ℕ) → 0 < digit → digit < 10 → m * 10 + digit < 10 ^ 18 → IsShort (m * 10 + digit) (m * 10 + digit) 0
short_from_size m digit some small less =
    record { number = as_it_is (m * 10 + digit); size = less; last_digit = λ _. last_stays m digit some small }

-- so many zeros make the digits too many
pub many_zeros : (digits zeros digit : ℕ) → 0 < digits → 17 ≤ zeros → 10 ^ 18 ≤ digits * 10 ^ zeros * 10 + digit
many_zeros digits zeros digit some many =
    let power : 10 ^ 17 ≤ 10 ^ zeros = pow-le-pow_right {n = 10} (omega arith) many in
    let product = mul-le 1 (10 ^ 17) digits (10 ^ zeros) some power in
    omega (arith, product)

-- the digits as the code computes them
pub joined_in_code : (digits zeros digit : ℕ) → digits * 10 ^ (zeros + 1) + digit ≡ digits * 10 ^ zeros * 10 + digit
joined_in_code digits zeros digit =
    let one : zeros + 1 ≡ suc zeros = omega arith in
    rw (one, pow-suc 10 zeros, mul_assoc digits (10 ^ zeros) 10) refl

-- one zero more
pub short_zero : (n digits zeros digit : ℕ) → digit ≡ 0 → IsShort n digits zeros → IsShort (n * 10 + digit) digits (zeros + 1)
short_zero n digits zeros digit e h =
    let one : zeros + 1 ≡ suc zeros = omega arith in
    record { number = rw (e, one, pow-suc 10 zeros, ← mul_assoc digits (10 ^ zeros) 10, ← h.number) (omega arith); size = h.size; last_digit = h.last_digit }

long_more : (n digit : ℕ) → digit < 10 → IsLong n → (t : Bool) → (digit == 0) ≡ t → IsLong (n * 10 + digit)
long_more n digit small h true e =
    let none : digit ≡ 0 = eqb-true digit 0 e in
    record { digits = h.digits; zeros = suc h.zeros; number = rw (none, pow-suc 10 h.zeros, ← mul_assoc h.digits (10 ^ h.zeros) 10, ← h.number) (omega arith); size = h.size; last_digit = h.last_digit }
long_more n digit small h false e =
    let some : ¬ (digit ≡ 0) = eqb-false digit 0 e in
    let power = mul-le h.digits 1 h.digits (10 ^ h.zeros) (omega arith) (ten_pow_pos h.zeros) in
    long_from_size n digit (pos_of_ne-zero some) small (omega (arith, power, h.number, h.size))

-- more than 18 digits stay more
pub long_then : (n digit : ℕ) → digit < 10 → IsLong n → IsLong (n * 10 + digit)
long_then n digit small h = long_more n digit small h (digit == 0) refl

-- before any digit
pub nothing_kept : IsShort 0 0 0
nothing_kept = record { number = omega arith; size = omega arith; last_digit = λ h. absurd (omega arith) }

pub many_zeros_after : (digits zeros : ℕ) → ¬ (digits % 10 ≡ 0) → 18 ≤ zeros → 10 ^ 18 ≤ digits * 10 ^ zeros
many_zeros_after digits zeros last many =
    let power : 10 ^ 18 ≤ 10 ^ zeros = pow-le-pow_right {n = 10} (omega arith) many in
    let some : 0 < digits = pos_of_ne-zero (λ e. last (rw e refl)) in
    let product = mul-le 1 (10 ^ 18) digits (10 ^ zeros) some power in
    omega (arith, product)
