-- The pairs of a spot's angles, and of where a station stands.
use Rattle.exact.specs.Rational.{ℚ}
use Rattle.decimals.specs.Decimal.{value}
use Rattle.sgp4_model.specs.Angle.{IsPi, Pair}
use Rattle.sgp4_model.specs.Degrees.{IsPairOfDegrees}
use Rattle.sgp4_model.specs.StationPlace.{IsStationPlace, in_km}
use Rattle.sgp4_model.specs.Vector.{Vector}
use Rattle.station_view.specs.declared.spot.Spot.{Spot}
use Rattle.station_view.specs.declared.station.Station.{Station}

-- pairs of the latitude and of the longitude, for one pi
pub record ArePairsOf (spot : Spot) (pi : ℚ) (lat lon : Pair) : Type 0 where
  pub is_pi : IsPi pi
  pub is_latitude : IsPairOfDegrees pi (value spot.lat) lat
  pub is_longitude : IsPairOfDegrees pi (value spot.lon) lon

-- these, and the place that they give
pub record StandsAt (station : Station) (pi : ℚ) (lat lon : Pair) (place : Vector) : Type 0 where
  pub pairs : ArePairsOf station.spot pi lat lon
  pub is_place : IsStationPlace lat lon (in_km (value station.height)) place
