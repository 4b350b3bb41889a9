-- Digits without the zeros at their end.
use Rattle.std.proofs.Common.{◌≡◌, arith, ℕ, zero, suc, ◌+◌, ◌*◌, ◌^◌, ◌-◌, ◌/◌, ◌%◌, ◌<◌, ◌≤◌, ◌==◌, Bool, true, false, refl, ◌∙◌, eq-eqb, ne_eqb, eqb-true}
use Rattle.std.proofs.lemmas.Bool.{eqb-false}
use Rattle.std.proofs.Math.Nat.{mul_assoc, pow-suc, mul-mod_left}
use Rattle.decimals.specs.Normal.{shortest}

-- a zero at the end is left off
pub shortest-zero : (n p : ℕ) → 0 < p → n % 10 ≡ 0 → shortest n p ≡ shortest (n / 10) (p - 1)
unfolding shortest
shortest-zero n zero h e = absurd (omega arith)
shortest-zero n (suc p) h e = let k : suc p - 1 ≡ p = omega arith in rw (k, shortest, eq-eqb (n % 10) 0 e) refl

-- another digit at the end stays
pub shortest-stop : (n p : ℕ) → ¬ (n % 10 ≡ 0) → shortest n p ≡ (n, p)
unfolding shortest
shortest-stop n zero e = refl
shortest-stop n (suc p) e = rw (shortest, ne_eqb (n % 10) 0 e) refl

-- and so does all of a whole number
pub shortest-whole : (n p : ℕ) → p ≤ 0 → shortest n p ≡ (n, p)
unfolding shortest
shortest-whole n zero h = refl
shortest-whole n (suc p) h = absurd (omega arith)

-- short digits stay
pub shortest-own : (n p : ℕ) → (0 < p → ¬ (n % 10 ≡ 0)) → shortest n p ≡ (n, p)
shortest-own n zero h = shortest-whole n 0 (omega arith)
shortest-own n (suc p) h = shortest-stop n (suc p) (h (omega arith))

-- what is left is no more than there was, and ends in no zero
pub record IsShort (n p : ℕ) (short : ℕ × ℕ) : Type 0 where
  pub size : short.0 ≤ n
  pub places : short.1 ≤ p
  pub last_digit : 0 < short.1 → ¬ (short.0 % 10 ≡ 0)

step : (n p : ℕ) → IsShort (n / 10) p (shortest (n / 10) p) → (t : Bool) → (n % 10 == 0) ≡ t → IsShort n (suc p) (elim t [ true ↦ shortest (n / 10) p | false ↦ (n, suc p) ])
step n p rest true e = record { size = omega arith; places = omega arith; last_digit = rest.last_digit }
step n p rest false e = record { size = omega arith; places = omega arith; last_digit = λ _. eqb-false (n % 10) 0 e }

pub shortest_is_short : (n p : ℕ) → IsShort n p (shortest n p)
unfolding shortest
shortest_is_short n zero = record { size = omega arith; places = omega arith; last_digit = λ h. absurd (omega arith) }
shortest_is_short n (suc p) = step n p (shortest_is_short (n / 10) p) (n % 10 == 0) refl

-- zeros put at the end are left off again
pub shortest-times : (n p j : ℕ) → shortest (n * 10 ^ j) (p + j) ≡ shortest n p
shortest-times n p zero = let e : p + 0 ≡ p = omega arith in let k : n * 10 ^ 0 ≡ n = omega arith in rw (e, k) refl
shortest-times n p (suc j) =
    let more : n * 10 ^ suc j ≡ n * 10 ^ j * 10 = rw (pow-suc 10 j, mul_assoc n (10 ^ j) 10) refl in
    let whole : n * 10 ^ suc j % 10 ≡ 0 = rw more (mul-mod_left (n * 10 ^ j) 10) in
    let rest : n * 10 ^ suc j / 10 ≡ n * 10 ^ j = rw more (omega arith) in
    let left : p + suc j - 1 ≡ p + j = omega arith in
    shortest-zero (n * 10 ^ suc j) (p + suc j) (omega arith) whole ∙ rw (rest, left) (shortest-times n p j)

-- so all zeros are left off
pub shortest-filled : (n p most : ℕ) → p ≤ most → (0 < p → ¬ (n % 10 ≡ 0)) → shortest (n * 10 ^ (most - p)) most ≡ (n, p)
shortest-filled n p most h last =
    let e : p + (most - p) ≡ most = omega arith in
    rw e at (shortest-times n p (most - p)) ∙ shortest-own n p last

step_splits : (n p : ℕ) → (j : ℕ) × (n / 10 ≡ (shortest (n / 10) p).0 * 10 ^ j) × (p ≡ (shortest (n / 10) p).1 + j) → (t : Bool) → (n % 10 == 0) ≡ t →
    let short : ℕ × ℕ = elim t [ true ↦ shortest (n / 10) p | false ↦ (n, suc p) ] in (j : ℕ) × (n ≡ short.0 * 10 ^ j) × (suc p ≡ short.1 + j)
step_splits n p rest true e =
    let zero_last : n % 10 ≡ 0 = eqb-true (n % 10) 0 e in
    let more : (shortest (n / 10) p).0 * 10 ^ suc rest.0 ≡ (shortest (n / 10) p).0 * 10 ^ rest.0 * 10 = rw (pow-suc 10 rest.0, mul_assoc (shortest (n / 10) p).0 (10 ^ rest.0) 10) refl in
    (suc rest.0, rw (more, ← rest.1) (omega arith), omega (arith, rest.2))
step_splits n p rest false e = (0, omega arith, omega arith)

-- what was there is what is left and the zeros
pub shortest_splits : (n p : ℕ) → (j : ℕ) × (n ≡ (shortest n p).0 * 10 ^ j) × (p ≡ (shortest n p).1 + j)
unfolding shortest
shortest_splits n zero = (0, omega arith, omega arith)
shortest_splits n (suc p) = step_splits n p (shortest_splits (n / 10) p) (n % 10 == 0) refl
