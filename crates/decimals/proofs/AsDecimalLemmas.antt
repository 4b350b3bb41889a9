-- The decimal of digits with zeros behind them.
use Rattle.std.proofs.Common.{◌≡◌, arith, ℕ, zero, suc, ◌+◌, ◌-◌, ◌*◌, ◌/◌, ◌%◌, ◌^◌, ◌<◌, ◌≤◌, ◌==◌, nat_lt, Bool, true, false, Option, Some, None, Ok, Err, refl, sym, ap, ◌∙◌, eq-eqb, ne_eqb, eqb-true, lt-ltb, le-ltb, ltb-true, ltb-false, ℤ, pos, negsuc, ◌+ℤ◌, ◌-ℤ◌}
use Rattle.std.proofs.lemmas.Int.{ints}
use Rattle.std.proofs.lemmas.Bool.{eqb-false}
use Rattle.std.proofs.lemmas.Nat.{pow-add, mod-mul-add, div-mul-add, div-add-mod', mod_below, mul-le}
use Rattle.std.proofs.Math.Nat.{mul_assoc, pow-suc, mul-mod_left}
use Rattle.decimals.specs.declared.fault.NumFault.TheVariants.{TooFine}
use Rattle.decimals.specs.Normal.{shortest, signed}
use Rattle.decimals.specs.DecimalText.{whole_quotient, scaled, of_short, of_units, as_decimal}
use Rattle.decimals.proofs.NormalLemmas.{shortest-filled}
use Rattle.decimals.proofs.UnitsLemmas.{ten_pow_pos}

-- ---- quotients

abbrev picked : Bool → ℕ → Option ℕ
picked t n = elim t [ true ↦ Some n | false ↦ None ]

quotient_by : (n d : ℕ) (t : Bool) → (n % d == 0) ≡ t → whole_quotient n d ≡ picked t (n / d)
unfolding whole_quotient
quotient_by n d t e = rw (whole_quotient, e) refl

pub quotient-whole : (q d : ℕ) → 0 < d → whole_quotient (q * d) d ≡ Some q
quotient-whole q d h =
    let rest : q * d % d ≡ 0 = mul-mod_left q d in
    let quotient : (q * d + 0) / d ≡ q = div-mul-add q d 0 h in
    let more : q * d + 0 ≡ q * d = omega arith in
    quotient_by (q * d) d true (eq-eqb _ _ rest) ∙ ap Some (ap (λ t. t / d) (sym more) ∙ quotient)

pub quotient-none : (n d : ℕ) → ¬ (n % d ≡ 0) → whole_quotient n d ≡ None
quotient-none n d h = quotient_by n d false (ne_eqb _ _ h)

rest-ten : (n d : ℕ) → 0 < d → n * 10 % (d * 10) ≡ n % d * 10
rest-ten n d h =
    let parts : n * 10 ≡ n / d * (d * 10) + n % d * 10 = let e = div-add-mod' n d in omega (arith, e) in
    let small : n % d * 10 < d * 10 = let k = mod_below n d h in omega (arith, k) in
    rw (← parts) at (mod-mul-add (n / d) (d * 10) (n % d * 10) small)

quotient_rest : (n d r : ℕ) (t : Bool) → (r == 0) ≡ t → n % d ≡ r → whole_quotient n d ≡ picked t (n / d)
quotient_rest n d r t e is = quotient_by n d t (rw is e)

ten_test : (r : ℕ) (t : Bool) → (r == 0) ≡ t → (r * 10 == 0) ≡ t
ten_test r true e = let h = eqb-true r 0 e in eq-eqb (r * 10) 0 (omega (arith, h))
ten_test r false e = let h = eqb-false r 0 e in ne_eqb (r * 10) 0 (λ k. h (omega (arith, k)))

-- a quotient stays where both numbers get a zero more
pub quotient-ten : (n d : ℕ) → 0 < d → whole_quotient (n * 10) (d * 10) ≡ whole_quotient n d
quotient-ten n d h =
    let test = n % d == 0 in
    let long = quotient_rest (n * 10) (d * 10) (n % d * 10) test (ten_test (n % d) test refl) (rest-ten n d h) in
    let parts : n * 10 ≡ n / d * (d * 10) + n % d * 10 = let e = div-add-mod' n d in omega (arith, e) in
    let small : n % d * 10 < d * 10 = let k = mod_below n d h in omega (arith, k) in
    let same : n * 10 / (d * 10) ≡ n / d = rw (← parts) at (div-mul-add (n / d) (d * 10) (n % d * 10) small) in
    long ∙ ap (picked test) same ∙ sym (quotient_by n d test refl)

-- ---- a zero at the end counts as one more in the exponent

scaled-ten : (n : ℕ) (e : ℤ) → scaled (n * 10) e ≡ scaled n (e +ℤ pos 1)
scaled-ten n (pos up) =
    let same : n * 10 * 10 ^ up ≡ n * 10 ^ (up + 1) = rw (pow-add 10 up 1) (omega arith) in
    ap Some same
scaled-ten n (negsuc zero) =
    let one : n * 10 ^ 0 ≡ n = omega arith in
    quotient-whole n 10 (omega arith) ∙ ap Some (sym one)
scaled-ten n (negsuc (suc down)) =
    let more : 10 ^ suc (suc down) ≡ 10 ^ suc down * 10 = pow-suc 10 (suc down) in
    let e : negsuc (suc down) +ℤ pos 1 ≡ negsuc down = omega (arith, ints) in
    rw (more, e) (quotient-ten n (10 ^ suc down) (ten_pow_pos (suc down)))

pub scaled-zeros : (n z : ℕ) (e : ℤ) → scaled (n * 10 ^ z) e ≡ scaled n (e +ℤ pos z)
scaled-zeros n zero e =
    let one : n * 10 ^ 0 ≡ n = omega arith in
    let none : e +ℤ pos 0 ≡ e = omega (arith, ints) in
    rw (one, none) refl
scaled-zeros n (suc z) e =
    let more : n * 10 ^ suc z ≡ n * 10 ^ z * 10 = rw (pow-suc 10 z, mul_assoc n (10 ^ z) 10) refl in
    let one : (e +ℤ pos 1) +ℤ pos z ≡ e +ℤ pos (suc z) = omega (arith, ints) in
    rw (more, ← one) (scaled-ten (n * 10 ^ z) e ∙ scaled-zeros n z (e +ℤ pos 1))

-- ---- the three cases

short_fits : (minus : Bool) (k p : ℕ) → k < 10 ^ 18 → of_short minus (k, p) ≡ Ok (record { digits = signed minus k; places = p })
unfolding of_short
short_fits minus k p small = rw (of_short, lt-ltb k (10 ^ 18) small) refl

short_not : (minus : Bool) (k p : ℕ) → 10 ^ 18 ≤ k → of_short minus (k, p) ≡ Err TooFine
unfolding of_short
short_not minus k p large = rw (of_short, le-ltb k (10 ^ 18) large) refl

-- a number without places, as units
as_whole : (minus : Bool) (k up : ℕ) → as_decimal minus k (pos up) ≡ of_short minus (k * 10 ^ up, 0)
unfolding as_decimal
as_whole minus k up =
    let more : k * 10 ^ (up + 18) ≡ k * 10 ^ up * 10 ^ 18 = rw (pow-add 10 up 18, mul_assoc k (10 ^ up) (10 ^ 18)) refl in
    let short : shortest (k * 10 ^ up * 10 ^ 18) 18 ≡ (k * 10 ^ up, 0) = shortest-filled (k * 10 ^ up) 0 18 (omega arith) (λ h. absurd (omega arith)) in
    ap (λ t. of_short minus (shortest t 18)) more ∙ ap (of_short minus) short

-- a number with places
as_fraction : (minus : Bool) (k down : ℕ) → down < 18 → ¬ (k % 10 ≡ 0) → as_decimal minus k (negsuc down) ≡ of_short minus (k, suc down)
unfolding as_decimal
as_fraction minus k down h last =
    let e : negsuc down +ℤ pos 18 ≡ pos (18 - suc down) = omega (arith, ints) in
    let short : shortest (k * 10 ^ (18 - suc down)) 18 ≡ (k, suc down) = shortest-filled k (suc down) 18 (omega arith) (λ _. last) in
    rw e (ap (of_short minus) short)

-- a number with too many places
power_last : (q d : ℕ) → q * 10 ^ suc d ≡ q * 10 ^ d * 10
power_last q d = rw (pow-suc 10 d, mul_assoc q (10 ^ d) 10) refl

no_power : (k d : ℕ) → ¬ (k % 10 ≡ 0) → ¬ (k % 10 ^ suc d ≡ 0)
no_power k d last e =
    let q = k / 10 ^ suc d in
    let parts : k ≡ q * 10 ^ suc d = let h = div-add-mod' k (10 ^ suc d) in omega (arith, h, e) in
    last (ap (λ t. t % 10) (parts ∙ power_last q d) ∙ mul-mod_left (q * 10 ^ d) 10)

as_too_fine : (minus : Bool) (k down : ℕ) → 18 ≤ down → ¬ (k % 10 ≡ 0) → as_decimal minus k (negsuc down) ≡ Err TooFine
unfolding as_decimal
as_too_fine minus k down h last =
    let e : negsuc down +ℤ pos 18 ≡ negsuc (down - 18) = omega (arith, ints) in
    rw e (ap (of_units minus) (quotient-none k (10 ^ suc (down - 18)) (no_power k (down - 18) last)))

-- ---- what the code computes: digits k with z zeros behind them, of which none is counted in k

-- the exponent of the digits alone
pub as_decimal-zeros : (minus : Bool) (k z : ℕ) (e : ℤ) → as_decimal minus (k * 10 ^ z) e ≡ as_decimal minus k (e +ℤ pos z)
unfolding as_decimal
as_decimal-zeros minus k z e =
    let turn : (e +ℤ pos 18) +ℤ pos z ≡ (e +ℤ pos z) +ℤ pos 18 = omega (arith, ints) in
    ap (of_units minus) (scaled-zeros k z (e +ℤ pos 18) ∙ ap (scaled k) turn)

scaled-nought : (e : ℤ) → scaled 0 e ≡ Some 0
scaled-nought (pos up) = let none : 0 * 10 ^ up ≡ 0 = omega arith in ap Some none
scaled-nought (negsuc down) =
    let none : 0 * 10 ^ suc down ≡ 0 = omega arith in
    rw none at (quotient-whole 0 (10 ^ suc down) (ten_pow_pos (suc down)))

signed-nought : (minus : Bool) → signed minus 0 ≡ pos 0
signed-nought true = refl
signed-nought false = refl

-- nought
pub as_decimal-nought : (minus : Bool) (e : ℤ) → as_decimal minus 0 e ≡ Ok (record { digits = pos 0; places = 0 })
unfolding as_decimal
as_decimal-nought minus e =
    let short : shortest 0 18 ≡ (0, 0) = shortest-filled 0 0 18 (omega arith) (λ h. absurd (omega arith)) in
    ap (of_units minus) (scaled-nought (e +ℤ pos 18)) ∙ ap (of_short minus) short ∙ short_fits minus 0 0 (omega arith) ∙ ap (λ t. Ok (record { digits = t; places = 0 })) (signed-nought minus)

pub as_decimal-whole : (minus : Bool) (k up down : ℕ) → down ≤ up → k * 10 ^ (up - down) < 10 ^ 18 → as_decimal minus k (pos up -ℤ pos down) ≡ Ok (record { digits = signed minus (k * 10 ^ (up - down)); places = 0 })
as_decimal-whole minus k up down h small =
    let e : pos up -ℤ pos down ≡ pos (up - down) = omega (arith, ints) in
    rw e (as_whole minus k (up - down) ∙ short_fits minus (k * 10 ^ (up - down)) 0 small)

pub as_decimal-large : (minus : Bool) (k up down : ℕ) → down ≤ up → 10 ^ 18 ≤ k * 10 ^ (up - down) → as_decimal minus k (pos up -ℤ pos down) ≡ Err TooFine
as_decimal-large minus k up down h large =
    let e : pos up -ℤ pos down ≡ pos (up - down) = omega (arith, ints) in
    rw e (as_whole minus k (up - down) ∙ short_not minus (k * 10 ^ (up - down)) 0 large)

pub as_decimal-fraction : (minus : Bool) (k up down : ℕ) → up < down → down ≤ up + 18 → ¬ (k % 10 ≡ 0) → k < 10 ^ 18 → as_decimal minus k (pos up -ℤ pos down) ≡ Ok (record { digits = signed minus k; places = down - up })
as_decimal-fraction minus k up down h near last small =
    let e : pos up -ℤ pos down ≡ negsuc (down - up - 1) = omega (arith, ints) in
    let back : suc (down - up - 1) ≡ down - up = omega arith in
    rw e (as_fraction minus k (down - up - 1) (omega arith) last ∙ ap (λ t. of_short minus (k, t)) back ∙ short_fits minus k (down - up) small)

pub as_decimal-fine : (minus : Bool) (k up down : ℕ) → up + 18 < down → ¬ (k % 10 ≡ 0) → as_decimal minus k (pos up -ℤ pos down) ≡ Err TooFine
as_decimal-fine minus k up down far last =
    let e : pos up -ℤ pos down ≡ negsuc (down - up - 1) = omega (arith, ints) in
    rw e (as_too_fine minus k (down - up - 1) (omega arith) last)

-- more than 18 digits, with no zero at the end
pub as_decimal-long : (minus : Bool) (k : ℕ) (e : ℤ) → 10 ^ 18 ≤ k → ¬ (k % 10 ≡ 0) → as_decimal minus k e ≡ Err TooFine
as_decimal-long minus k (pos up) large last =
    let more = mul-le k 1 k (10 ^ up) (omega arith) (ten_pow_pos up) in
    as_whole minus k up ∙ short_not minus (k * 10 ^ up) 0 (omega (arith, more))
as_decimal-long minus k (negsuc down) large last = by_places (nat_lt down 18) refl
  where
    by_places : (t : Bool) → nat_lt down 18 ≡ t → as_decimal minus k (negsuc down) ≡ Err TooFine
    by_places true e = as_fraction minus k down (ltb-true down 18 e) last ∙ short_not minus k (suc down) large
    by_places false e = as_too_fine minus k down (ltb-false down 18 e) last
