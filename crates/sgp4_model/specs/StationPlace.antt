-- Where a station stands, Earth-fixed: geodetic coordinates on the ellipsoid of 1984 as a vector in Earth radii of 1972.
use Rattle.std.specs.Prelude.{◌≡◌, pos}
use Rattle.exact.specs.Rational.{ℚ, ◌+ℚ◌, ◌*ℚ◌, ◌/ℚ◌, ◌^ℚ◌, one_ℚ, ratio}
use Rattle.sgp4_model.specs.Angle.{Pair}
use Rattle.sgp4_model.specs.Numerals.{IsDivisor}
use Rattle.sgp4_model.specs.Root.{IsSqrt}
use Rattle.sgp4_model.specs.Vector.{Vector}
use Rattle.sgp4_model.specs.Wgs72.{earth_radius_km}
use Rattle.sgp4_model.specs.Wgs84.{axes_squared, equator_km}

-- metres in kilometres
abbrev pub in_km : ℚ → ℚ
in_km metres = metres *ℚ ratio (pos 1) 1000

-- The place at a latitude, a longitude and a height in kilometres. With F the square of the axes' ratio and one
-- C = 1 / sqrt (cos^2 f + F sin^2 f) throughout it is ((a C + h) cos f cos l, (a C + h) cos f sin l, (a F C + h) sin f).
pub record IsStationPlace (lat lon : Pair) (height : ℚ) (place : Vector) : Type 0 where
  pub root : ℚ
  pub c : ℚ
  pub root_is : IsSqrt (lat.cosine ^ℚ 2 +ℚ axes_squared *ℚ lat.sine ^ℚ 2) root
  pub root_divides : IsDivisor root
  pub c_is : c ≡ one_ℚ /ℚ root
  pub x : place.x ≡ (equator_km *ℚ c +ℚ height) *ℚ lat.cosine *ℚ lon.cosine /ℚ earth_radius_km
  pub y : place.y ≡ (equator_km *ℚ c +ℚ height) *ℚ lat.cosine *ℚ lon.sine /ℚ earth_radius_km
  pub z : place.z ≡ (equator_km *ℚ axes_squared *ℚ c +ℚ height) *ℚ lat.sine /ℚ earth_radius_km
