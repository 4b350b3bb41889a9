-- The ellipsoid of the World Geodetic System 1984, on which stations stand.
use Rattle.std.specs.Prelude.{pos, ◌^◌}
use Rattle.exact.specs.Rational.{ℚ, ◌-ℚ◌, ◌^ℚ◌, one_ℚ, ratio}
use Rattle.sgp4_model.specs.Numerals.{decimal}

-- its equatorial radius: 6378.137 km
abbrev pub equator_km : ℚ
equator_km = decimal 6378137 3

-- the square of its axes' ratio: (1 - 1/298.257223563)^2
abbrev pub axes_squared : ℚ
axes_squared = (one_ℚ -ℚ ratio (pos (10 ^ 9)) 298257223563) ^ℚ 2
