-- Given numbers in the lines of the equations: each in the tightest interval, so enclosed exactly where that can be.
use Rattle.std.specs.Prelude.{ℕ, ℤ, pos}
use Rattle.exact.specs.Rational.{ratio as fraction}
use Rattle.fixed_iv.specs.Arithmetic.{Arithmetic}
use Rattle.sgp4_init.specs.Numerals.{of_ratio}

module _ (N : Arithmetic) where
  open N use {Number, given}

  -- the number n / d
  abbrev pub ratio : ℤ → ℕ → Number
  ratio n d = given (fraction n d) (of_ratio n (pos d))

  -- a whole number
  abbrev pub whole : ℕ → Number
  whole n = ratio (pos n) 1
