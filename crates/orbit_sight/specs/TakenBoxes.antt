-- The boxes of the sets that are taken, within seven days of the epoch: perigees of at least 300 km.
use Rattle.std.specs.Prelude.{ℕ, pos, negsuc, true}
use Rattle.exact.specs.Interval.{between, Coef}
use Rattle.fixed_iv.specs.Reach.{from_to}
use Rattle.sgp4_periodic.specs.Box.{PositionBox}
use Rattle.fixed_iv.specs.EnclosedVector.{VectorReach}
use Rattle.sgp4_shape.specs.Expected.{DragBox}
use Rattle.orbit_sight.specs.Box.{OrbitBox}

-- ---- what is known of the exact quantities
abbrev pub taken_drag : DragBox
taken_drag = record { known = true; bend = between (negsuc 85) 10000 (pos 86) 10000 }

-- the sizes of ax and ay add up to at most 0.2853
abbrev pub taken_position : PositionBox
taken_position = record {
  known = true;
  vector = 80304810855551;
  inner = between (negsuc 2022) 10000 (pos 2023) 10000;
  latitude = between (negsuc 100) 100 (pos 101) 100;
  change = between (negsuc 2) 1000 (pos 3) 1000;
}

-- the distance is at least 1.034 Earth radii
abbrev pub taken_far : Coef
taken_far = record { num = pos 1034; under = 999 }

-- ---- an instant: the time is two units of 2^-48 wide at most
abbrev pub instant_box : OrbitBox
instant_box = record {
  time = from_to (negsuc 6152) (pos 6153) 10000 2;
  drag = taken_drag;
  position = taken_position;
  far = taken_far;
  eccentricity = from_to (negsuc 6) (pos 2007) 10000 9100;
  mean = record {
    am = from_to (pos 10441) (pos 19266) 10000 30000;
    em = from_to (pos 0) (pos 2007) 10000 9100;
    ml = from_to (negsuc 727) (pos 728) 1 12210000;
    wm = from_to (negsuc 2602) (pos 2603) 100 4970000;
    om = from_to (negsuc 734) (pos 735) 100 32500;
  };
  component = from_to (negsuc 2018) (pos 2019) 10000 1010000;
  rectum = from_to (pos 9) (pos 21) 10 1600000;
  distance = from_to (pos 8) (pos 24) 10 19000000;
  coordinate = from_to (negsuc 4) (pos 5) 1 226000000;
}

-- ---- a least cell, of 100 microseconds: the time is 28,650 units wide at most
-- the spread of a coordinate over it, in units of 2^-48
abbrev pub cell_spread : ℕ
cell_spread = 656000000

abbrev pub cell_box : OrbitBox
cell_box = record {
  time = from_to (negsuc 6152) (pos 6153) 10000 28650;
  drag = taken_drag;
  position = taken_position;
  far = taken_far;
  eccentricity = from_to (negsuc 6) (pos 2007) 10000 9400;
  mean = record {
    am = from_to (pos 10441) (pos 19266) 10000 30000;
    em = from_to (pos 0) (pos 2007) 10000 9400;
    ml = from_to (negsuc 727) (pos 728) 1 48040000;
    wm = from_to (negsuc 2602) (pos 2603) 100 8110000;
    om = from_to (negsuc 734) (pos 735) 100 81900;
  };
  component = from_to (negsuc 2018) (pos 2019) 10000 1640000;
  rectum = from_to (pos 9) (pos 21) 10 2580000;
  distance = from_to (pos 8) (pos 24) 10 52800000;
  coordinate = from_to (negsuc 4) (pos 5) 1 cell_spread;
}

-- numerals of a position over it
abbrev pub cell_position : VectorReach
cell_position = record { x = cell_box.coordinate; y = cell_box.coordinate; z = cell_box.coordinate }
