-- The number that a text writes, as an exact rational, and what reading makes of it.
use Rattle.std.specs.Prelude.{◌≡◌, ◌↔◌, ℕ, suc, ◌^◌, true, false, List, ◌++◌, length, Option, Some, None, Ok, Err, ℤ, pos, negsuc, ◌-ℤ◌}
use Rattle.exact.specs.Rational.{ℚ, of_int, ratio, ◌*ℚ◌}
use Rattle.decimals.specs.declared.fault.NumFault.TheVariants.{Shape, TooFine}
use Rattle.decimals.specs.Decimal.{DecimalRecord, IsDecimal, value}
use Rattle.decimals.specs.Normal.{signed}
use Rattle.decimals.specs.NumberText.{NumberFields, number_fields, number_written, is_number, exponent_of}
use Rattle.decimals.specs.DecimalText.{decimal_value}

-- 10 to a power
unfoldable pub ten_to : ℤ → ℚ
ten_to (pos up) = of_int (pos (10 ^ up))
ten_to (negsuc down) = ratio (pos 1) (10 ^ suc down)

-- the number of a text's fields: the digits as a whole number, times 10 to the exponent less the places
abbrev pub number_of_fields : NumberFields → ℚ
number_of_fields fields =
    of_int (signed fields.minus (number_written (fields.whole ++ fields.fraction))) *ℚ ten_to (exponent_of fields.exponent -ℤ pos (length fields.fraction))

-- the number that a text writes, if it has the form of a number
unfoldable pub number_of_text : List ℕ → Option ℚ
number_of_text text = elim (is_number (number_fields text)) [ true ↦ Some (number_of_fields (number_fields text)) | false ↦ None ]

-- a decimal is read exactly where it is the number that the text writes; the text is too fine exactly where it writes
-- a number that is no decimal
pub record IsReadExactly (text : List ℕ) : Type 0 where
  pub shape : decimal_value text ≡ Err Shape ↔ number_of_text text ≡ None
  pub ok : (d : DecimalRecord) → decimal_value text ≡ Ok d ↔ (IsDecimal d × number_of_text text ≡ Some (value d))
  pub too_fine : decimal_value text ≡ Err TooFine ↔ ((x : ℚ) × number_of_text text ≡ Some x × ((d : DecimalRecord) → IsDecimal d → ¬ (value d ≡ x)))

-- each text is
abbrev pub TextsAreReadExactly : Type 0
TextsAreReadExactly = (text : List ℕ) → IsReadExactly text
