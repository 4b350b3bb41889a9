-- How a station sees a satellite: the direction to it, along the local east, north and up.
use Rattle.std.specs.Prelude.{◌≡◌, ℤ}
use Rattle.exact.specs.Rational.{ℚ, ◌/ℚ◌}
use Rattle.sgp4_model.specs.Angle.{Pair}
use Rattle.sgp4_model.specs.DaySolution.{local_up}
use Rattle.sgp4_model.specs.Degrees.{IsPairOfDegrees}
use Rattle.sgp4_model.specs.LocalAxes.{difference, local_east, local_north}
use Rattle.sgp4_model.specs.Numerals.{IsDivisor}
use Rattle.sgp4_model.specs.Records.{StationRecord}
use Rattle.sgp4_model.specs.Root.{IsSqrt}
use Rattle.sgp4_model.specs.Sidereal.{IsSiderealPair, earth_fixed}
use Rattle.sgp4_model.specs.StationPlace.{IsStationPlace, in_km}
use Rattle.sgp4_model.specs.Vector.{Vector, inner_product}

-- a direction; `up` is the sine of the elevation
pub record SightRecord : Type 0 where
  pub east : ℚ
  pub north : ℚ
  pub up : ℚ

-- the direction of an Earth-fixed vector from the station to the satellite: its products with the local axes, each divided
-- by the range, which is a root of its square and not 0
pub record IsDirection (lat lon : Pair) (toward : Vector) (range : ℚ) (v : SightRecord) : Type 0 where
  pub range_is : IsSqrt (inner_product toward toward) range
  pub range_divides : IsDivisor range
  pub east : v.east ≡ inner_product toward (local_east lon) /ℚ range
  pub north : v.north ≡ inner_product toward (local_north lat lon) /ℚ range
  pub up : v.up ≡ inner_product toward (local_up lat lon) /ℚ range

-- The range and the direction at which a station sees the position r, which is in Earth radii and in the frame of the true equator and
-- the mean equinox, at an instant in seconds, where UT1 is so many milliseconds more than UTC.
pub record IsSight (row : StationRecord) (pi at : ℚ) (dut1 : ℤ) (r : Vector) (range : ℚ) (v : SightRecord) : Type 0 where
  pub of_latitude : Pair
  pub of_longitude : Pair
  pub turn : Pair
  pub place : Vector
  pub is_latitude : IsPairOfDegrees pi row.lat of_latitude
  pub is_longitude : IsPairOfDegrees pi row.lon of_longitude
  pub is_sidereal : IsSiderealPair pi at dut1 turn
  pub is_place : IsStationPlace of_latitude of_longitude (in_km row.height) place
  pub is_direction : IsDirection of_latitude of_longitude (difference (earth_fixed turn r) place) range v
