-- Decimal numbers, and the fractions that they stand for.
use Rattle.std.specs.Prelude.{◌≡◌, ℕ, ◌<◌, ◌≤◌, ◌%◌, ◌^◌, ℤ, unsigned_abs}
use Rattle.exact.specs.Rational.{ℚ, ratio}

-- digits without the point, and how many of them stand after it
pub record DecimalRecord : Type 0 where
  pub digits : ℤ
  pub places : ℕ

-- the number that a decimal stands for: its digits over 10 to the power of its places
unfoldable pub value : DecimalRecord → ℚ
value d = ratio d.digits (10 ^ d.places)

-- at most 18 digits, at most 18 of them after the point, and the last of these is not 0
pub record IsDecimal (d : DecimalRecord) : Type 0 where
  pub size : unsigned_abs d.digits < 10 ^ 18
  pub most_places : d.places ≤ 18
  pub last_digit : 0 < d.places → ¬ (unsigned_abs d.digits % 10 ≡ 0)
