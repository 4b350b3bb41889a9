-- What an enclosed place of a station covers, and its numerals.
use Rattle.std.specs.Prelude.{◌^◌, pos, negsuc}
use Rattle.exact.specs.Rational.{ℚ, ◌+ℚ◌, ◌*ℚ◌, ◌/ℚ◌, one_ℚ}
use Rattle.exact.specs.Interval.{Interval, between}
use Rattle.fixed_iv.specs.EnclosedVector.{VectorReach}
use Rattle.fixed_iv.specs.Follows.{Encloses}
use Rattle.fixed_iv.specs.Place.{Place}
use Rattle.fixed_iv.specs.Reach.{IsGiven, Reach, from_to}
use Rattle.fixed_iv.specs.declared.enc.Enc.{Ghosts}
use Rattle.fixed_iv.specs.declared.iv.Iv.{Iv}
use Rattle.fixed_iv.specs.declared.vec3.Vec3.{Vec3}
use Rattle.sgp4_model.specs.Angle.{Pair}
use Rattle.sgp4_model.specs.Numerals.{IsDivisor}
use Rattle.sgp4_model.specs.Root.{IsSqrt}
use Rattle.sgp4_model.specs.StationPlace.{IsStationPlace}
use Rattle.sgp4_model.specs.Vector.{Vector}
use Rattle.sgp4_model.specs.Wgs84.{axes_squared}
use Rattle.station_view.specs.Axes.{EnclosesVector}
use Rattle.station_view.specs.SpotPairs.{ArePairsOf}
use Rattle.station_view.specs.declared.spot.Spot.{Spot}

-- of the square of the axes' ratio
abbrev pub axes_reach : Reach
axes_reach = from_to (pos 993) (pos 994) 1000 1

-- of the equatorial radius in kilometres
abbrev pub equator_reach : Reach
equator_reach = from_to (pos 6378) (pos 6379) 1 1

-- at every place of a cell the enclosure is of one number
abbrev pub EnclosesNumber : {A : Type 0} → Ghosts A → A → ℚ → Reach → Type 0
EnclosesNumber E a x r = (h : Place) → Encloses E a h x r

-- of one over the root
abbrev pub stretch_reach : Reach
stretch_reach = from_to (pos 999) (pos 1004) 1000 1024

-- the number is one over each root of cos^2 f + F sin^2 f, with F the square of the axes' ratio
abbrev pub IsStretchOf : {A : Type 0} → Ghosts A → Spot → A → Type 0
IsStretchOf E spot result =
    (h : Place) (pi root : ℚ) (lat lon : Pair) → ArePairsOf spot pi lat lon →
    IsSqrt (lat.cosine *ℚ lat.cosine +ℚ axes_squared *ℚ (lat.sine *ℚ lat.sine)) root → IsDivisor root →
    Encloses E result h (one_ℚ /ℚ root) stretch_reach

-- a height in kilometres
abbrev pub height_range : Interval
height_range = between (negsuc 0) 1 (pos 9) 1

-- of the place: each component is at most 1.01 in size, with a spread of at most 2^13 units
abbrev pub place_reach : VectorReach
place_reach = record {
  x = from_to (negsuc 100) (pos 101) 100 (2 ^ 13);
  y = from_to (negsuc 100) (pos 101) 100 (2 ^ 13);
  z = from_to (negsuc 100) (pos 101) 100 (2 ^ 13);
}

-- the vector is each place of the spot at a height that the interval holds
abbrev pub IsPlaceOf : {A : Type 0} → Ghosts A → Spot → Iv → Vec3 A → Type 0
IsPlaceOf E spot height result =
    (h : Place) (pi x : ℚ) (lat lon : Pair) (place : Vector) → ArePairsOf spot pi lat lon → IsGiven height x height_range 2 →
    IsStationPlace lat lon x place → EnclosesVector E result h place place_reach
