-- A solution and a lit solution exist wherever a position does: each other angle has a pair, and each root that divides exists.
use Rattle.std.proofs.Common.{List, [], ◌∷◌, pos, refl, ℤ}
use Rattle.exact.specs.Rational.{ℚ, ◌*ℚ◌, ◌/ℚ◌, ratio}
use Rattle.sgp4_model.specs.Angle.{IsPi, Pair}
use Rattle.sgp4_model.specs.DaySolution.{local_up}
use Rattle.sgp4_model.specs.Degrees.{IsPairOfDegrees, radians}
use Rattle.sgp4_model.specs.Light.{shadow_of}
use Rattle.sgp4_model.specs.LocalAxes.{difference, local_east, local_north}
use Rattle.sgp4_model.specs.Records.{SectorRecord, StationRecord}
use Rattle.sgp4_model.specs.Sectors.{AreMaskPairs, SectorPairs, sides_of}
use Rattle.sgp4_model.specs.Sidereal.{earth_fixed, in_ut1, sidereal_angle}
use Rattle.sgp4_model.specs.Sight.{IsDirection, IsSight, SightRecord}
use Rattle.sgp4_model.specs.SolutionLaws.{LitSolutionExists, SolutionExists}
use Rattle.sgp4_model.specs.StationPlace.{in_km}
use Rattle.sgp4_model.specs.Sun.{IsSun, days, obliquity, sun_longitude, sun_mean_anomaly}
use Rattle.sgp4_model.specs.Vector.{Vector, inner_product}
use Rattle.sgp4_model.proofs.MeanExists.{pair_exists}
use Rattle.sgp4_model.proofs.PlaceExists.{dividing_root_exists, place_exists, square_not_below_0}

degrees_exist : (pi x : ℚ) → IsPi pi → (p : Pair) × IsPairOfDegrees pi x p
degrees_exist pi x is_pi = pair_exists pi (radians pi x) is_pi

-- ---- the pairs of a mask
mask_pairs_exist : (pi : ℚ) → IsPi pi → (sectors : List SectorRecord) → (pairs : List SectorPairs) × AreMaskPairs pi sectors pairs
mask_pairs_exist pi is_pi [] = ([], tt)
mask_pairs_exist pi is_pi (sector ∷ sectors) =
    let border = degrees_exist pi sector.border is_pi in
    let floor = degrees_exist pi sector.floor is_pi in
    let rest = mask_pairs_exist pi is_pi sectors in
    (record { border = border.0; floor = floor.0 } ∷ rest.0, ((border.1, floor.1), rest.1))

-- ---- the direction
record SomeDirection (lat lon : Pair) (toward : Vector) : Type 0 where
  range : ℚ
  sight : SightRecord
  is : IsDirection lat lon toward range sight

direction_exists : (lat lon : Pair) (toward : Vector) → SomeDirection lat lon toward
direction_exists lat lon toward =
    let root = dividing_root_exists (inner_product toward toward) (square_not_below_0 toward) in
    record {
      range = root.0;
      sight = record {
        east = inner_product toward (local_east lon) /ℚ root.0;
        north = inner_product toward (local_north lat lon) /ℚ root.0;
        up = inner_product toward (local_up lat lon) /ℚ root.0;
      };
      is = record { range_is = root.1.0; range_divides = root.1.1; east = refl; north = refl; up = refl };
    }

record SomeSight (row : StationRecord) (pi at : ℚ) (dut1 : ℤ) (r : Vector) : Type 0 where
  range : ℚ
  sight : SightRecord
  is : IsSight row pi at dut1 r range sight

sight_exists : (row : StationRecord) (pi at : ℚ) (dut1 : ℤ) (r : Vector) → IsPi pi → SomeSight row pi at dut1 r
sight_exists row pi at dut1 r is_pi =
    let lat = degrees_exist pi row.lat is_pi in
    let lon = degrees_exist pi row.lon is_pi in
    let turn = pair_exists pi (sidereal_angle pi (in_ut1 dut1 at)) is_pi in
    let place = place_exists pi (radians pi row.lat) lat.0 lon.0 (in_km row.height) is_pi lat.1 in
    let found = direction_exists lat.0 lon.0 (difference (earth_fixed turn.0 r) place.0) in
    record {
      range = found.range;
      sight = found.sight;
      is = record {
        of_latitude = lat.0;
        of_longitude = lon.0;
        turn = turn.0;
        place = place.0;
        is_latitude = lat.1;
        is_longitude = lon.1;
        is_sidereal = turn.1;
        is_place = place.1;
        is_direction = found.is;
      };
    }

pub solution_exists : SolutionExists
solution_exists set row at dut1 r p =
    let seen = sight_exists row p.pi at dut1 r p.pi_is in
    let mask = mask_pairs_exist p.pi p.pi_is row.sectors in (
      record { constants = p.constants; range = seen.range; sight = seen.sight; sectors = sides_of mask.0 },
      record {
        pi = p.pi;
        mean = p.mean;
        root = p.root;
        position = r;
        pairs = mask.0;
        is_pi = p.pi_is;
        are_constants = p.constants_are;
        is_mean = p.mean_is;
        is_position = p.position_is;
        is_sight = seen.is;
        are_pairs = mask.1;
        sectors_are = refl;
      },
    )

-- ---- the Sun
sun_exists : (pi at : ℚ) → IsPi pi → (sun : Vector) × IsSun pi at sun
sun_exists pi at is_pi =
    let anomaly = degrees_exist pi (sun_mean_anomaly (days at)) is_pi in
    let twice = degrees_exist pi (ratio (pos 2) 1 *ℚ sun_mean_anomaly (days at)) is_pi in
    let longitude = degrees_exist pi (sun_longitude (days at) anomaly.0.sine twice.0.sine) is_pi in
    let tilt = degrees_exist pi (obliquity (days at)) is_pi in (
      record { x = longitude.0.cosine; y = tilt.0.cosine *ℚ longitude.0.sine; z = tilt.0.sine *ℚ longitude.0.sine },
      record {
        anomaly = anomaly.0;
        twice_anomaly = twice.0;
        longitude = longitude.0;
        tilt = tilt.0;
        of_anomaly = anomaly.1;
        of_twice_anomaly = twice.1;
        of_longitude = longitude.1;
        of_tilt = tilt.1;
        x = refl;
        y = refl;
        z = refl;
      },
    )

pub lit_solution_exists : LitSolutionExists
lit_solution_exists set at r p =
    let sun = sun_exists p.pi at p.pi_is in (
      shadow_of r sun.0,
      record {
        pi = p.pi;
        constants = p.constants;
        mean = p.mean;
        root = p.root;
        position = r;
        sun = sun.0;
        is_pi = p.pi_is;
        are_constants = p.constants_are;
        is_mean = p.mean_is;
        is_position = p.position_is;
        is_sun = sun.1;
        numbers_are = refl;
      },
    )
