-- A day solution of each place and instant.
use Rattle.std.proofs.Common.{[], refl, ℤ, pos}
use Rattle.exact.specs.Rational.{ℚ, ◌*ℚ◌, ratio}
use Rattle.exact.proofs.Intervals.{le_on}
use Rattle.exact.proofs.Order.{le_refl}
use Rattle.exact.proofs.RationalRing.{reads}
use Rattle.sgp4_model.specs.Angle.{IsPi, Pair, least_pi}
use Rattle.sgp4_model.specs.DayLaws.{DaySolutionExists}
use Rattle.sgp4_model.specs.DaySolution.{local_up}
use Rattle.sgp4_model.specs.Degrees.{IsPairOfDegrees, radians}
use Rattle.sgp4_model.specs.Sidereal.{IsSiderealPair, earth_fixed, in_ut1, sidereal_angle}
use Rattle.sgp4_model.specs.Sun.{IsSun, days, obliquity, sun_longitude, sun_mean_anomaly}
use Rattle.sgp4_model.specs.Vector.{Vector, inner_product}
use Rattle.sgp4_model.proofs.OwnPair.{sine_and_cosine_exist}

some_pi : IsPi least_pi
some_pi = record { low = le_refl least_pi; high = le_on 0 [] [] tt (search reads depth 90) tt }

-- a pair of an angle, by the lowest pi
pair_of : (x : ℚ) → (p : Pair) × IsPairOfDegrees least_pi x p
pair_of x =
    let found = sine_and_cosine_exist least_pi (radians least_pi x) some_pi in
    (record { sine = found.0; cosine = found.1.0 }, found.1.1)

-- a pair of the sidereal angle
turn_at : (at : ℚ) (dut1 : ℤ) → (p : Pair) × IsSiderealPair least_pi at dut1 p
turn_at at dut1 =
    let found = sine_and_cosine_exist least_pi (sidereal_angle least_pi (in_ut1 dut1 at)) some_pi in
    (record { sine = found.0; cosine = found.1.0 }, found.1.1)

-- a direction of the Sun
sun_at : (at : ℚ) → (sun : Vector) × IsSun least_pi at sun
sun_at at =
    let anomaly = pair_of (sun_mean_anomaly (days at)) in
    let twice = pair_of (ratio (pos 2) 1 *ℚ sun_mean_anomaly (days at)) in
    let longitude = pair_of (sun_longitude (days at) anomaly.0.sine twice.0.sine) in
    let tilt = pair_of (obliquity (days at)) in (
      record { x = longitude.0.cosine; y = tilt.0.cosine *ℚ longitude.0.sine; z = tilt.0.sine *ℚ longitude.0.sine },
      record {
        anomaly = anomaly.0;
        twice_anomaly = twice.0;
        longitude = longitude.0;
        tilt = tilt.0;
        of_anomaly = anomaly.1;
        of_twice_anomaly = twice.1;
        of_longitude = longitude.1;
        of_tilt = tilt.1;
        x = refl;
        y = refl;
        z = refl;
      },
    )

pub day_solution_exists : DaySolutionExists
day_solution_exists lat lon at dut1 =
    let up = pair_of lat in
    let along = pair_of lon in
    let turn = turn_at at dut1 in
    let sun = sun_at at in (
      inner_product (local_up up.0 along.0) (earth_fixed turn.0 sun.0),
      record {
        pi = least_pi;
        of_latitude = up.0;
        of_longitude = along.0;
        turn = turn.0;
        sun = sun.0;
        is_pi = some_pi;
        is_latitude = up.1;
        is_longitude = along.1;
        is_sidereal = turn.1;
        is_sun = sun.1;
        product_is = refl;
      },
    )
