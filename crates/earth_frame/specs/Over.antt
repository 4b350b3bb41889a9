-- Time over a cell, counted in units of 16,384 minutes from a base.
use Rattle.std.specs.Prelude.{ℤ, pos}
use Rattle.exact.specs.Rational.{ℚ, ◌+ℚ◌, ◌*ℚ◌, ratio}
use Rattle.sgp4_model.specs.Time.{instant_of_nanos}

-- the instant so many units of 16,384 minutes after a base, which is in nanoseconds from 2000-01-01T12:00:00 UTC
abbrev pub instant_after : ℤ → ℚ → ℚ
instant_after base x = instant_of_nanos base +ℚ x *ℚ ratio (pos 983040) 1
