-- An angle of the Sun at a base, in half turns.
use Rattle.std.specs.Prelude.{ℕ, ℤ, pos, ◌^◌}
use Rattle.exact.specs.Rational.{ℚ, ◌+ℚ◌, ◌*ℚ◌, ratio}
use Rattle.sgp4_model.specs.Sun.{days}
use Rattle.sgp4_model.specs.Time.{instant_of_nanos}

-- so many thousandths of a degree, and so many parts of 10^7 of a degree for each day, over 180
abbrev pub daily_half_turns : ℕ → ℕ → ℤ → ℚ
daily_half_turns offset daily base =
    (ratio (pos offset) (10 ^ 3) +ℚ ratio (pos daily) (10 ^ 7) *ℚ days (instant_of_nanos base)) *ℚ ratio (pos 1) 180
