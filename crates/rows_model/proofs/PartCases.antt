-- Solutions from their parts.
use Rattle.std.proofs.Common.{◌≡◌, refl, ap, [], ◌∷◌}
use Rattle.exact.specs.Rational.{ℚ, ◌-ℚ◌, ◌*ℚ◌, ◌^ℚ◌, one_ℚ}
use Rattle.exact.proofs.RationalRing.{ring, reads}
use Rattle.sgp4_model.specs.Light.{ShadowRecord, shadow_of}
use Rattle.sgp4_model.specs.Vector.{Vector, inner_product}
use Rattle.rows_model.specs.Sunlight.{depth, over}
use Rattle.rows_model.specs.Parts.{ContactsMakeSolutions, PairsMakeADay, PairsMakeASun, PositionsMakeLight, ThreeSectorsGoRound}

pub pairs_make_a_sun : PairsMakeASun
pairs_make_a_sun pi at g twice la ep of_g of_twice of_la of_ep = record {
  anomaly = g;
  twice_anomaly = twice;
  longitude = la;
  tilt = ep;
  of_anomaly = of_g;
  of_twice_anomaly = of_twice;
  of_longitude = of_la;
  of_tilt = of_ep;
  x = refl;
  y = refl;
  z = refl;
}

pub pairs_make_a_day : PairsMakeADay
pairs_make_a_day lat lon at dut1 pi f l t s h = record {
  pi = pi;
  of_latitude = f;
  of_longitude = l;
  turn = t;
  sun = s;
  is_pi = h.is_pi;
  is_latitude = h.latitude;
  is_longitude = h.longitude;
  is_sidereal = h.turn;
  is_sun = h.sun;
  product_is = refl;
}

-- the height, with its square written out
over_is : (r s : Vector) → record { p = depth r s; g = over r s } ≡ shadow_of r s
over_is r s = ap (λ g. let v : ShadowRecord = record { p = depth r s; g = g } in v) (squared (inner_product r r) (depth r s))
  where
    squared : (l d : ℚ) → l -ℚ d *ℚ d -ℚ one_ℚ ≡ l -ℚ d ^ℚ 2 -ℚ one_ℚ
    squared l d = ring (l ∷ d ∷ []) (search reads depth 60) tt

pub positions_make_light : PositionsMakeLight
positions_make_light set at pi k m root r s h = record {
  pi = pi;
  constants = k;
  mean = m;
  root = root;
  position = r;
  sun = s;
  is_pi = h.is_pi;
  are_constants = h.constants;
  is_mean = h.mean;
  is_position = h.position;
  is_sun = h.sun;
  numbers_are = over_is r s;
}

pub contacts_make_solutions : ContactsMakeSolutions
contacts_make_solutions c set row at dut1 h = record {
  pi = c.pi;
  mean = c.m;
  root = c.root;
  position = c.r;
  pairs = c.pairs;
  is_pi = h.is_pi;
  are_constants = h.constants;
  is_mean = h.mean;
  is_position = h.position;
  is_sight = record {
    of_latitude = c.f;
    of_longitude = c.l;
    turn = c.t;
    place = c.place;
    is_latitude = h.latitude;
    is_longitude = h.longitude;
    is_sidereal = h.turn;
    is_place = h.place_is;
    is_direction = record { range_is = h.range_is; range_divides = h.range_divides; east = refl; north = refl; up = refl };
  };
  are_pairs = h.mask;
  sectors_are = refl;
}

pub three_sectors_go_round : ThreeSectorsGoRound
three_sectors_go_round a b c = refl
