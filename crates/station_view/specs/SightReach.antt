-- What an enclosed direction covers, and its numerals.
use Rattle.std.specs.Prelude.{◌^◌, pos, negsuc, true}
use Rattle.exact.specs.Rational.{ratio, ◌<ℚ◌}
use Rattle.exact.specs.Interval.{Interval}
use Rattle.fixed_iv.specs.EnclosedVector.{VectorReach}
use Rattle.earth_frame.specs.HeldVector.{rotated}
use Rattle.fixed_iv.specs.Follows.{Encloses}
use Rattle.fixed_iv.specs.Place.{Place}
use Rattle.fixed_iv.specs.Reach.{Reach, claimed, from_to, ◌-ᴿ◌, ◌/ᴿ◌}
use Rattle.fixed_iv.specs.ReachRoots.{rooted}
use Rattle.fixed_iv.specs.declared.enc.Enc.{Ghosts}
use Rattle.fixed_iv.specs.declared.iv.Iv.{Iv}
use Rattle.sgp4_model.specs.Sight.{SightRecord}
use Rattle.sgp4_periodic.specs.Pairs.{inner_of, most_pair, outer_of}
use Rattle.station_view.specs.Axes.{inner_reach, slim_number}
use Rattle.station_view.specs.declared.vector.Sight.{Sight}

-- each component of the direction is covered at the place
pub record CoversSight {A : Type 0} (E : Ghosts A) (sight : Sight A) (h : Place) (v : SightRecord) : Type 0 where
  pub east : E.covers sight.east h v.east
  pub north : E.covers sight.north h v.north
  pub up : E.covers sight.up h v.up

-- numerals for each
pub record SightReach : Type 0 where
  pub east : Reach
  pub north : Reach
  pub up : Reach

-- each component is covered at the place, and its enclosure is as its numerals say
pub record IsHeldSight {A : Type 0} (E : Ghosts A) (sight : Sight A) (h : Place) (v : SightRecord) (r : SightReach) : Type 0 where
  pub east : Encloses E sight.east h v.east r.east
  pub north : Encloses E sight.north h v.north r.north
  pub up : Encloses E sight.up h v.up r.up

-- of a component of a station's place
abbrev pub place_component : Reach
place_component = from_to (negsuc 100) (pos 101) 100 (2 ^ 13)

-- of the vector from the station to a position: from those of the sidereal pair and of the position
abbrev pub toward_reach : Reach → Reach → VectorReach → VectorReach
toward_reach sine cosine r = record {
  x = (rotated sine cosine r).x -ᴿ place_component;
  y = (rotated sine cosine r).y -ᴿ place_component;
  z = (rotated sine cosine r).z -ᴿ place_component;
}

-- of the range, where its square is known to lie in an interval
abbrev pub range_reach : VectorReach → Interval → Reach
range_reach toward square = rooted (claimed (inner_reach toward toward) square)

-- numerals for lengths along the local axes, and for the range
pub record LengthsReach : Type 0 where
  pub east : Reach
  pub north : Reach
  pub up : Reach
  pub range : Reach

-- away from the Earth's axis, in the plane of the station
abbrev pub out_reach : VectorReach → Reach
out_reach toward = inner_of true most_pair slim_number slim_number toward.x toward.y

-- of a vector's lengths, from those of the vector and of the range
abbrev pub lengths_reach : VectorReach → Reach → LengthsReach
lengths_reach toward range = record {
  east = outer_of true most_pair slim_number slim_number toward.y toward.x;
  north = outer_of true most_pair slim_number slim_number toward.z (out_reach toward);
  up = inner_of true most_pair slim_number slim_number (out_reach toward) toward.z;
  range = range;
}

-- of the direction, from those of the lengths
abbrev pub sight_reach : LengthsReach → SightReach
sight_reach l = record { east = l.east /ᴿ l.range; north = l.north /ᴿ l.range; up = l.up /ᴿ l.range }

-- the bounds lie above 1/4096
abbrev pub LieAbove4096th : Iv → Type 0
LieAbove4096th v = ratio (pos 1) 4096 <ℚ ratio v.lo (2 ^ 48)
