-- The decimal that a text writes.
use Rattle.std.specs.Prelude.{ℕ, suc, ◌*◌, ◌/◌, ◌%◌, ◌^◌, Bool, true, false, ◌==◌, nat_lt, List, ◌++◌, length, Option, Some, None, Result, Ok, Err, ℤ, pos, negsuc, ◌+ℤ◌, ◌-ℤ◌}
use Rattle.decimals.specs.declared.fault.NumFault.{NumFault}
use Rattle.decimals.specs.declared.fault.NumFault.TheVariants.{Shape, TooFine}
use Rattle.decimals.specs.Decimal.{DecimalRecord}
use Rattle.decimals.specs.Normal.{shortest, signed}
use Rattle.decimals.specs.NumberText.{NumberFields, number_fields, number_written, is_number, exponent_of}

-- n / d, where that is a whole number
unfoldable pub whole_quotient : ℕ → ℕ → Option ℕ
whole_quotient n d = elim (n % d == 0) [ true ↦ Some (n / d) | false ↦ None ]

-- n times 10 to a power, where that is a whole number
abbrev pub scaled : ℕ → ℤ → Option ℕ
scaled n (pos up) = Some (n * 10 ^ up)
scaled n (negsuc down) = whole_quotient n (10 ^ suc down)

-- the decimal of these digits and places, if its digits are not too many
unfoldable pub of_short : Bool → ℕ × ℕ → Result DecimalRecord NumFault
of_short minus short = elim (nat_lt short.0 (10 ^ 18)) [ true ↦ Ok (record { digits = signed minus short.0; places = short.1 }) | false ↦ Err TooFine ]

-- the decimal of so many units of 10^-18
abbrev pub of_units : Bool → Option ℕ → Result DecimalRecord NumFault
of_units minus None = Err TooFine
of_units minus (Some units) = of_short minus (shortest units 18)

-- the decimal n * 10^exponent, or its negative where there is a minus: too fine where no decimal is that number
unfoldable pub as_decimal : Bool → ℕ → ℤ → Result DecimalRecord NumFault
as_decimal minus n exponent = of_units minus (scaled n (exponent +ℤ pos 18))

-- the decimal of a number's fields: the digits as one whole number, with the point moved by the exponent
unfoldable pub decimal_of_fields : NumberFields → Result DecimalRecord NumFault
decimal_of_fields fields = elim (is_number fields) [
  | true ↦ as_decimal fields.minus (number_written (fields.whole ++ fields.fraction)) (exponent_of fields.exponent -ℤ pos (length fields.fraction))
  | false ↦ Err Shape
]

-- the decimal that a text writes
unfoldable pub decimal_value : List ℕ → Result DecimalRecord NumFault
decimal_value text = decimal_of_fields (number_fields text)
