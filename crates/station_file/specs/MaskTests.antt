-- The rules on the borders of an elevation mask, as tests.
use Rattle.std.specs.Prelude.{ℕ, Bool, false, not, ◌&&◌, nat_le, List, [], ◌∷◌, length}
use Rattle.std.specs.List.{list_all}
use Rattle.exact.specs.Rational.{ℚ, at_least_0, ◌+ℚ◌, ◌-ℚ◌}
use Rattle.decimals.specs.Decimal.{DecimalRecord, value}
use Rattle.elements.specs.Ranges.{at_most, below}
use Rattle.station_file.specs.Masks.{degrees}

-- an azimuth is at least 0 and below 360 degrees
abbrev pub is_azimuth : DecimalRecord → Bool
is_azimuth border = at_most (degrees 0) (value border) && below (value border) (degrees 360)

-- a border follows another: it is above it, by at most 90 degrees
abbrev pub follows : ℚ → ℚ → Bool
follows before border = below before border && at_most border (before +ℚ degrees 90)

-- from this border on each one follows the one before it, round to the first border after a full turn
abbrev pub goes_round : (first border : ℚ) → List DecimalRecord → Bool
goes_round first border [] = follows border (first +ℚ degrees 360)
goes_round first border (next ∷ borders) = follows border (value next) && goes_round first (value next) borders

-- the borders go round the horizon
abbrev pub is_round : List DecimalRecord → Bool
is_round [] = false
is_round (border ∷ borders) = goes_round (value border) (value border) borders

-- there are 4 to 360
abbrev pub is_count : ℕ → Bool
is_count n = nat_le 4 n && nat_le n 360

-- 4 to 360 azimuths that go round the horizon
abbrev pub are_borders : List DecimalRecord → Bool
are_borders borders = is_count (length borders) && (list_all is_azimuth borders && is_round borders)
