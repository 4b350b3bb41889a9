-- Numbers as they are printed: whole numbers, decimals, and numbers that may divide.
use Rattle.std.specs.Prelude.{◌≡◌, ℕ, pos, ◌^◌}
use Rattle.exact.specs.Rational.{ℚ, ratio, zero_ℚ}

-- the whole number n
abbrev pub whole : ℕ → ℚ
whole n = ratio (pos n) 1

-- the decimal with these digits, of which so many stand after the point
abbrev pub decimal : ℕ → ℕ → ℚ
decimal digits places = ratio (pos digits) (10 ^ places)

-- the number may divide: it is not 0
abbrev pub IsDivisor : ℚ → Type 0
IsDivisor y = ¬ (y ≡ zero_ℚ)
