-- The decimal of the digits that reading keeps.
use Rattle.std.proofs.Common.{◌≡◌, arith, ℕ, ◌+◌, Bool, Ok, Err, sym, ◌∙◌, ℤ, pos, ◌+ℤ◌, ◌-ℤ◌}
use Rattle.std.proofs.lemmas.Int.{ints}
use Rattle.decimals.specs.declared.fault.NumFault.TheVariants.{TooFine}
use Rattle.decimals.specs.DecimalText.{as_decimal}
use Rattle.decimals.specs.Significant.{IsShort, IsLong}
use Rattle.decimals.proofs.AsDecimalLemmas.{as_decimal-zeros, as_decimal-nought, as_decimal-long}

-- more than 18 digits are too many, wherever the point is
pub long_fits_not : (minus : Bool) (n : ℕ) (e : ℤ) → IsLong n → as_decimal minus n e ≡ Err TooFine
long_fits_not minus n e h = rw h.number (as_decimal-zeros minus h.digits h.zeros e ∙ as_decimal-long minus h.digits (e +ℤ pos h.zeros) h.size h.last_digit)

pub nought_fits : (minus : Bool) (n digits trailing : ℕ) (e : ℤ) → digits ≡ 0 → IsShort n digits trailing → as_decimal minus n e ≡ Ok (record { digits = pos 0; places = 0 })
nought_fits minus n digits trailing e is h =
    let none : n ≡ 0 = h.number ∙ rw is (omega arith) in
    rw none (as_decimal-nought minus e)

-- the point moved by the zeros, the exponent and the places
pub short_fits_as : (minus : Bool) (n digits zeros places up down : ℕ) (e : ℤ) → IsShort n digits zeros → e ≡ pos up -ℤ pos down → as_decimal minus digits (pos (zeros + up) -ℤ pos (places + down)) ≡ as_decimal minus n (e -ℤ pos places)
short_fits_as minus n digits zeros places up down e h is =
    let moved : pos (zeros + up) -ℤ pos (places + down) ≡ (e -ℤ pos places) +ℤ pos zeros = omega (arith, ints, is) in
    rw (h.number, moved) (sym (as_decimal-zeros minus digits zeros (e -ℤ pos places)))
