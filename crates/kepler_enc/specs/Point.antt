-- The numbers that ends of intervals stand for.
use Rattle.std.specs.Prelude.{ℤ, pos}
use Rattle.exact.specs.Rational.{ℚ, of_int, ratio, ◌*ℚ◌}

-- the number of so many units of 2^-48
unfoldable pub at : ℤ → ℚ
at units = of_int units *ℚ ratio (pos 1) 281474976710656
