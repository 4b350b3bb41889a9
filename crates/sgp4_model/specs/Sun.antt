-- The direction to the Sun, by the low-precision formula of the Astronomical Almanac. Its frame is taken as TEME.
use Rattle.std.specs.Prelude.{pos, ◌^◌}
use Rattle.exact.specs.Rational.{ℚ, ◌+ℚ◌, ◌-ℚ◌, ◌*ℚ◌, ratio}
use Rattle.std.specs.Prelude.{◌≡◌}
use Rattle.sgp4_model.specs.Angle.{Pair}
use Rattle.sgp4_model.specs.Degrees.{IsPairOfDegrees}
use Rattle.sgp4_model.specs.Vector.{Vector}

-- days of 86,400 seconds, of an instant in seconds from 2000-01-01T12:00:00
abbrev pub days : ℚ → ℚ
days at = at *ℚ ratio (pos 1) 86400

-- the Sun's mean longitude in degrees: 280.460 + 0.9856474 d
abbrev pub sun_mean_longitude : ℚ → ℚ
sun_mean_longitude d = ratio (pos 280460) (10 ^ 3) +ℚ ratio (pos 9856474) (10 ^ 7) *ℚ d

-- the Sun's mean anomaly in degrees: 357.528 + 0.9856003 d
abbrev pub sun_mean_anomaly : ℚ → ℚ
sun_mean_anomaly d = ratio (pos 357528) (10 ^ 3) +ℚ ratio (pos 9856003) (10 ^ 7) *ℚ d

-- the Sun's ecliptic longitude in degrees, of the sines of its mean anomaly and of twice that: + 1.915 sin g + 0.020 sin 2g
abbrev pub sun_longitude : ℚ → ℚ → ℚ → ℚ
sun_longitude d sine sine_of_twice =
    sun_mean_longitude d +ℚ ratio (pos 1915) (10 ^ 3) *ℚ sine +ℚ ratio (pos 20) (10 ^ 3) *ℚ sine_of_twice

-- the obliquity of the ecliptic in degrees: 23.439 - 0.0000004 d
abbrev pub obliquity : ℚ → ℚ
obliquity d = ratio (pos 23439) (10 ^ 3) -ℚ ratio (pos 4) (10 ^ 7) *ℚ d

-- the direction at an instant: (cos la, cos ep sin la, sin ep sin la), with one pair for each angle
pub record IsSun (pi at : ℚ) (sun : Vector) : Type 0 where
  pub anomaly : Pair
  pub twice_anomaly : Pair
  pub longitude : Pair
  pub tilt : Pair
  pub of_anomaly : IsPairOfDegrees pi (sun_mean_anomaly (days at)) anomaly
  pub of_twice_anomaly : IsPairOfDegrees pi (ratio (pos 2) 1 *ℚ sun_mean_anomaly (days at)) twice_anomaly
  pub of_longitude : IsPairOfDegrees pi (sun_longitude (days at) anomaly.sine twice_anomaly.sine) longitude
  pub of_tilt : IsPairOfDegrees pi (obliquity (days at)) tilt
  pub x : sun.x ≡ longitude.cosine
  pub y : sun.y ≡ tilt.cosine *ℚ longitude.sine
  pub z : sun.z ≡ tilt.sine *ℚ longitude.sine
