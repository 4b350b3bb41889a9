-- The solutions of daylight at a place and an instant, and when they are light, night or graze.
use Rattle.std.specs.Prelude.{◌≡◌, ℕ, ℤ}
use Rattle.exact.specs.Rational.{ℚ, ◌*ℚ◌, zero_ℚ, ◌<ℚ◌}
use Rattle.sgp4_model.specs.Angle.{IsPi, IsNear, Pair, part}
use Rattle.sgp4_model.specs.Degrees.{IsPairOfDegrees}
use Rattle.sgp4_model.specs.EachSolution.{OfEach}
use Rattle.sgp4_model.specs.Numerals.{decimal}
use Rattle.sgp4_model.specs.Vector.{Vector, inner_product}
use Rattle.sgp4_model.specs.Sidereal.{IsSiderealPair, earth_fixed}
use Rattle.sgp4_model.specs.Sun.{IsSun}
use Rattle.sgp4_model.specs.Time.{instant_of_place}
use Rattle.sgp4_model.specs.Certified.{TrackRecord}

-- the local up, Earth-fixed, at a latitude and a longitude: (cos f cos l, cos f sin l, sin f)
abbrev pub local_up : Pair → Pair → Vector
local_up lat lon = record { x = lat.cosine *ℚ lon.cosine; y = lat.cosine *ℚ lon.sine; z = lat.sine }

-- The daylight product is one of the place in degrees at the instant: the inner product of the local up with the
-- Sun's direction, Earth-fixed, which is the sine of the Sun's elevation. The Earth turns by UT1, which is so many
-- milliseconds more than UTC; the Sun stands where it does at the instant. One pi serves throughout.
pub record IsDaySolution (lat lon at : ℚ) (dut1 : ℤ) (product : ℚ) : Type 0 where
  pub pi : ℚ
  pub of_latitude : Pair
  pub of_longitude : Pair
  pub turn : Pair
  pub sun : Vector
  pub is_pi : IsPi pi
  pub is_latitude : IsPairOfDegrees pi lat of_latitude
  pub is_longitude : IsPairOfDegrees pi lon of_longitude
  pub is_sidereal : IsSiderealPair pi at dut1 turn
  pub is_sun : IsSun pi at sun
  pub product_is : product ≡ inner_product (local_up of_latitude of_longitude) (earth_fixed turn sun)

-- light: the Sun is above the horizon
abbrev pub IsDaylight : ℚ → Type 0
IsDaylight product = zero_ℚ <ℚ product

-- night: the Sun is below the horizon
abbrev pub IsNight : ℚ → Type 0
IsNight product = product <ℚ zero_ℚ

-- the sine of the Sun's elevation is at most b to either side of 0
abbrev pub GrazesHorizonBy : ℚ → ℚ → Type 0
GrazesHorizonBy b product = IsNear b product zero_ℚ

-- the Sun grazes the horizon: by 0.001, and by 2^-23, which takes it milliseconds at the equator, and seconds at a pole
pub record GrazesHorizon (product : ℚ) : Type 0 where
  pub given : GrazesHorizonBy (decimal 1 3) product
  pub sharp : GrazesHorizonBy (part 23) product

-- at a place of the window that starts so many nanoseconds from 2000-01-01T12:00:00 UTC there is a day solution, and a fact
-- holds of each one
abbrev pub EachDaySolution : ℚ → ℚ → ℤ → ℤ → (ℚ → Type 0) → ℚ → Type 0
EachDaySolution lat lon start dut1 holds place = OfEach (IsDaySolution lat lon (instant_of_place start place) dut1) holds

-- the track of daylight: at a place of the window each day solution is light, is night, or grazes; nothing sinks
abbrev pub day_track : ℚ → ℚ → ℤ → ℤ → ℕ → TrackRecord
day_track lat lon start dut1 ticks = record {
  ticks = ticks;
  yes = EachDaySolution lat lon start dut1 IsDaylight;
  no = EachDaySolution lat lon start dut1 IsNight;
  grazes = EachDaySolution lat lon start dut1 GrazesHorizon;
  sinks = λ _. ⊥;
}
