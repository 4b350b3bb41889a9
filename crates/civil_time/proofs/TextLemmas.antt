-- The digits of numbers, and what the printer writes in terms of them.
use Rattle.std.proofs.Common.{length, drop, get_or, ◌≡◌, ℕ, zero, suc, ◌+◌, ◌*◌, ◌/◌, ◌%◌, ◌^◌, ◌<◌, refl, sym, ap, ◌∙◌, arith, List, [], ◌∷◌, ◌++◌}
use Rattle.std.proofs.Math.Nat.{div-div-eq-div-mul, mod-mod, mod-lt, mod-eq_of_lt, mul_comm}
use Rattle.std.proofs.Math.Arith.{mod-mul}
use Rattle.std.proofs.lemmas.Nat.{div-mul-add, mod-mul-add, div_below, pow-add}
use Rattle.jiff_fmt.specs.Text.{pad2, pad4, places}
use Rattle.jiff_fmt.proofs.TextLemmas.{places-step, places-end, tenth_place}
use Rattle.jiff_fmt.proofs.ReaderLemmas.{tenth, ten_pow-pos}
use Rattle.civil_time.specs.InstantText.{fixed_digits}

-- a head and a tail make a list
cons_same : (a b : ℕ) (xs ys : List ℕ) → a ≡ b → xs ≡ ys → a ∷ xs ≡ b ∷ ys
cons_same a b xs ys e h = rw (e, h) refl

fixed_digits-zero : (n : ℕ) → fixed_digits 0 n ≡ []
unfolding fixed_digits
fixed_digits-zero n = refl

-- one more digit in front
pub fixed_digits-suc : (count n : ℕ) → fixed_digits (suc count) n ≡ (48 + n / 10 ^ count % 10) ∷ fixed_digits count n
unfolding fixed_digits
fixed_digits-suc count n = refl

pub length-fixed_digits : (count n : ℕ) → length (fixed_digits count n) ≡ count
unfolding fixed_digits
length-fixed_digits zero n = refl
length-fixed_digits (suc count) n = ap suc (length-fixed_digits count n)

-- the first digit and the rest
pub high_low : (count n : ℕ) → n % 10 ^ suc count ≡ (n / 10 ^ count % 10) * 10 ^ count + n % 10 ^ count
high_low count n = rw (tenth (suc count) count refl) (mod-mul n (omega arith) (ten_pow-pos count))

-- of a quotient and a remainder
parts_same : (a b c r s : ℕ) → r < c → s < c → a * c + r ≡ b * c + s → (a ≡ b) × (r ≡ s)
parts_same a b c r s low high e =
    (sym (div-mul-add a c r low) ∙ ap (λ x. x / c) e ∙ div-mul-add b c s high, sym (mod-mul-add a c r low) ∙ ap (λ x. x % c) e ∙ mod-mul-add b c s high)

-- the last digits are those of the remainder
pub fixed_digits-same : (count a b : ℕ) → a % 10 ^ count ≡ b % 10 ^ count → fixed_digits count a ≡ fixed_digits count b
unfolding fixed_digits
fixed_digits-same zero a b e = refl
fixed_digits-same (suc count) a b e =
    let c = 10 ^ count in
    let positive = ten_pow-pos count in
    let same = parts_same (a / c % 10) (b / c % 10) c (a % c) (b % c) (mod-lt a positive) (mod-lt b positive) (sym (high_low count a) ∙ e ∙ high_low count b) in
    cons_same _ _ _ _ (ap (λ x. 48 + x) same.0) (fixed_digits-same count a b same.1)

-- digits before the same or another rest name the number, and the rest
pub fixed_digits-then : (count a b : ℕ) (xs ys : List ℕ) → fixed_digits count a ++ xs ≡ fixed_digits count b ++ ys → (a % 10 ^ count ≡ b % 10 ^ count) × (xs ≡ ys)
unfolding fixed_digits
fixed_digits-then zero a b xs ys e = (omega arith, e)
fixed_digits-then (suc count) a b xs ys e =
    let first : a / 10 ^ count % 10 ≡ b / 10 ^ count % 10 = omega (arith, ap (λ zs. get_or zs 0 0) e) in
    let rest = fixed_digits-then count a b xs ys (ap (drop 1) e) in
    (rw (high_low count a, high_low count b, first, rest.0) refl, rest.1)

-- what is left of a quotient after its first digits
rest_of : (count left n : ℕ) → n % (10 ^ count * 10 ^ left) / 10 ^ left % 10 ^ count ≡ n / 10 ^ left % 10 ^ count
rest_of count left n =
    let quotient : n % (10 ^ count * 10 ^ left) / 10 ^ left ≡ n / 10 ^ left % 10 ^ count = ap (λ x. x / 10 ^ left) (mod-mul n (ten_pow-pos count) (ten_pow-pos left)) ∙ div-mul-add (n / 10 ^ left % 10 ^ count) (10 ^ left) (n % 10 ^ left) (mod-lt n (ten_pow-pos left)) in
    rw quotient (mod-mod (n / 10 ^ left) (10 ^ count))

-- the decimals of a fraction are digits
pub places-digits : (count left n : ℕ) → n < 10 ^ (count + left) → places count (10 ^ (count + left)) n ≡ fixed_digits count (n / 10 ^ left)
places-digits zero left n h = places-end 0 _ n refl ∙ sym (fixed_digits-zero _)
places-digits (suc count) left n h =
    let power = 10 ^ left in
    let c = 10 ^ (count + left) in
    let tens : 10 ^ (suc count + left) / 10 ≡ c = tenth_place (suc count + left) (count + left) (omega arith) in
    let whole : 10 ^ (suc count + left) ≡ 10 * c = tenth (suc count + left) (count + left) (omega arith) in
    let split : c ≡ 10 ^ count * power = pow-add 10 count left in
    let quotient : n / power / 10 ^ count ≡ n / c = div-div-eq-div-mul n power (10 ^ count) ∙ ap (λ x. n / x) (mul_comm power (10 ^ count) ∙ sym split) in
    let small : n / c < 10 = div_below n c 10 (ten_pow-pos (count + left)) (omega (arith, whole)) in
    let first : 48 + n / c ≡ 48 + n / power / 10 ^ count % 10 = rw quotient (ap (λ x. 48 + x) (sym (mod-eq_of_lt small))) in
    let below = places-digits count left (n % c) (mod-lt n (ten_pow-pos (count + left))) in
    let rest : fixed_digits count (n % c / power) ≡ fixed_digits count (n / power) = fixed_digits-same count _ _ (rw (split) (rest_of count left n)) in
    places-step (suc count) count _ n refl ∙ rw tens (cons_same _ _ _ _ first (below ∙ rest)) ∙ sym (fixed_digits-suc count (n / power))

pub pad2-digits : (n : ℕ) → n < 100 → pad2 n ≡ fixed_digits 2 n
unfolding fixed_digits
pad2-digits n h = cons_same _ _ _ _ (omega arith) (cons_same _ _ _ _ (omega arith) refl)

pub pad4-digits : (n : ℕ) → n < 10000 → pad4 n ≡ fixed_digits 4 n
unfolding fixed_digits
pad4-digits n h =
    cons_same _ _ _ _ (omega arith) (cons_same _ _ _ _ (omega arith) (cons_same _ _ _ _ (omega arith) (cons_same _ _ _ _ (omega arith) refl)))
