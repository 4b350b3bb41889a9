-- Enclosures of the Sun's angles and of its direction over a cell of time.
use Rattle.std.specs.Prelude.{ℤ, pos}
use Rattle.exact.specs.Rational.{ℚ, ◌*ℚ◌, ratio}
use Rattle.fixed_iv.specs.Holds.{Holds}
use Rattle.fixed_iv.specs.Place.{Place}
use Rattle.fixed_iv.specs.declared.enc.Enc.{Ghosts}
use Rattle.fixed_iv.specs.declared.iv.Iv.{Iv}
use Rattle.fixed_iv.specs.declared.vec3.Vec3.{Vec3}
use Rattle.sgp4_model.specs.Angle.{IsPi, Pair}
use Rattle.sgp4_model.specs.Degrees.{IsPairOfDegrees, radians}
use Rattle.sgp4_model.specs.Sun.{IsSun, days, obliquity, sun_longitude, sun_mean_anomaly, sun_mean_longitude}
use Rattle.sgp4_model.specs.Vector.{Vector}
use Rattle.fixed_iv.specs.EnclosedVector.{CoversVector}
use Rattle.earth_frame.specs.Covered.{CoversAngle}
use Rattle.earth_frame.specs.Over.{instant_after}

-- each direction of the Sun at the instant is covered
abbrev pub CoversEachSun : {A : Type 0} → Ghosts A → ℤ → A → Vec3 A → Type 0
CoversEachSun E base t result =
    (h : Place) (pi x : ℚ) (sun : Vector) → IsPi pi → E.covers t h x → IsSun pi (instant_after base x) sun → CoversVector E.covers result h sun

-- in radians at an instant: the mean anomaly and the mean longitude
abbrev pub anomaly_radians : ℚ → ℚ → ℚ
anomaly_radians pi at = radians pi (sun_mean_anomaly (days at))

abbrev pub longitude_radians : ℚ → ℚ → ℚ
longitude_radians pi at = radians pi (sun_mean_longitude (days at))

-- the pairs are those of the mean anomaly and of twice it at the instant
pub record AreAnomalyPairs (pi at : ℚ) (anomaly twice : Pair) : Type 0 where
  pub of_anomaly : IsPairOfDegrees pi (sun_mean_anomaly (days at)) anomaly
  pub of_twice : IsPairOfDegrees pi (ratio (pos 2) 1 *ℚ sun_mean_anomaly (days at)) twice

-- each ecliptic longitude at the instant is covered, less some whole turns
abbrev pub CoversEachLongitude : {A : Type 0} → Ghosts A → ℤ → A → A → Type 0
CoversEachLongitude E base t result =
    (h : Place) (pi x : ℚ) (anomaly twice : Pair) → IsPi pi → E.covers t h x → AreAnomalyPairs pi (instant_after base x) anomaly twice →
    CoversAngle E.covers result h pi (radians pi (sun_longitude (days (instant_after base x)) anomaly.sine twice.sine))

-- the interval holds the obliquity in radians at the instant
abbrev pub HoldsObliquity : Iv → ℤ → ℚ → Type 0
HoldsObliquity v base x = (pi : ℚ) → IsPi pi → Holds v (radians pi (obliquity (days (instant_after base x))))
