-- What a station keeps of its place.
use Rattle.std.specs.Prelude.{◌^◌, negsuc, pos}
use Rattle.exact.specs.Rational.{ℚ}
use Rattle.exact.specs.Interval.{Interval, between}
use Rattle.fixed_iv.specs.Reach.{IsGiven}
use Rattle.fixed_iv.specs.declared.iv.Iv.{Iv}
use Rattle.fixed_iv.specs.declared.vec3.Vec3.{Vec3}
use Rattle.sgp4_model.specs.Angle.{IsPi, Pair}
use Rattle.sgp4_model.specs.Degrees.{IsPairOfDegrees}
use Rattle.sgp4_model.specs.StationPlace.{IsStationPlace, in_km}
use Rattle.sgp4_model.specs.Vector.{Vector}
use Rattle.station_view.specs.Spot.{IsNoWider}

-- between -1.01 and 1.01
abbrev pub place_range : Interval
place_range = between (negsuc 100) 100 (pos 101) 100

-- each interval holds its component, which is at most 1.01 in size, and is at most 2^13 units wide
pub record GivePlace (v : Vec3 Iv) (place : Vector) : Type 0 where
  pub x : IsGiven v.x place.x place_range (2 ^ 13)
  pub y : IsGiven v.y place.y place_range (2 ^ 13)
  pub z : IsGiven v.z place.z place_range (2 ^ 13)

-- each interval is no wider than 2^13 units
abbrev pub AreNoWider : Vec3 Iv → Type 0
AreNoWider v = IsNoWider (2 ^ 13) v.x × IsNoWider (2 ^ 13) v.y × IsNoWider (2 ^ 13) v.z

-- The intervals hold each place of a latitude and a longitude in degrees and a height in metres, for each pi of the bracket.
-- They are no wider than 2^13 units.
pub record EnclosePlace (lat lon height : ℚ) (v : Vec3 Iv) : Type 0 where
  pub hold : (pi : ℚ) (f l : Pair) (place : Vector) → IsPi pi → IsPairOfDegrees pi lat f → IsPairOfDegrees pi lon l →
      IsStationPlace f l (in_km height) place → GivePlace v place
  pub narrow : AreNoWider v
