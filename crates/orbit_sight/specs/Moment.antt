-- The time of an instant, in units of 16,384 minutes from an epoch.
use Rattle.std.specs.Prelude.{ℤ, ◌-ℤ◌}
use Rattle.exact.specs.Rational.{ℚ, ratio}

-- both are in nanoseconds from 2000-01-01T12:00:00 UTC; a unit has 983,040 seconds
abbrev pub units_from : ℤ → ℤ → ℚ
units_from epoch at = ratio (at -ℤ epoch) 983040000000000
