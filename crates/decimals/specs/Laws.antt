-- Laws of decimals.
use Rattle.std.specs.Prelude.{◌≡◌, Ok}
use Rattle.decimals.specs.Decimal.{DecimalRecord, IsDecimal, value}
use Rattle.decimals.specs.DecimalText.{decimal_value}
use Rattle.decimals.specs.PrintedDecimal.{decimal_text}

-- decimals that stand for one number are equal
abbrev pub EqualValuesAreEqual : Type 0
EqualValuesAreEqual = (a b : DecimalRecord) → IsDecimal a → IsDecimal b → value a ≡ value b → a ≡ b

-- what is printed of a decimal is read as it
abbrev pub PrintedDecimalsAreReadBack : Type 0
PrintedDecimalsAreReadBack = (d : DecimalRecord) → IsDecimal d → decimal_value (decimal_text d) ≡ Ok d

-- decimals have texts of their own
abbrev pub TextsOfDecimalsDiffer : Type 0
TextsOfDecimalsDiffer = (a b : DecimalRecord) → IsDecimal a → IsDecimal b → decimal_text a ≡ decimal_text b → a ≡ b
