-- The text of a decimal: its sign where it is below 0, its whole part, and where it has places a point and that many digits.
use Rattle.std.specs.Prelude.{ℕ, zero, suc, ◌-◌, ◌/◌, ◌%◌, ◌^◌, List, [], ◌∷◌, ◌++◌, length, replicate, decimal, pos, int_lt, unsigned_abs}
use Rattle.std.specs.Fmt.{sign_text}
use Rattle.decimals.specs.Decimal.{DecimalRecord}

-- a number in so many digits, with zeros in front
abbrev pub padded : ℕ → ℕ → List ℕ
padded width n = replicate (width - length (decimal n)) 48 ++ decimal n

-- a point and so many digits, where there are any
abbrev pub fraction_text : ℕ → ℕ → List ℕ
fraction_text zero rest = []
fraction_text (suc places) rest = 46 ∷ padded (suc places) rest

-- the text of a decimal
unfoldable pub decimal_text : DecimalRecord → List ℕ
decimal_text d =
    let size = unsigned_abs d.digits in
    sign_text (int_lt d.digits (pos 0)) ++ decimal (size / 10 ^ d.places) ++ fraction_text d.places (size % 10 ^ d.places)
