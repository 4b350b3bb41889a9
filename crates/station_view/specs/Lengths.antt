-- The vector from a station to a position as lengths along the local axes, and its own length: in Earth radii.
use Rattle.exact.specs.Rational.{ℚ, ◌*ℚ◌}
use Rattle.exact.specs.Interval.{Inside, Interval}
use Rattle.fixed_iv.specs.EnclosedVector.{VectorReach}
use Rattle.earth_frame.specs.declared.rotation.Turn.{Turn}
use Rattle.fixed_iv.specs.Follows.{Encloses}
use Rattle.fixed_iv.specs.Place.{Place}
use Rattle.fixed_iv.specs.Reach.{Reach}
use Rattle.fixed_iv.specs.declared.enc.Enc.{Ghosts}
use Rattle.fixed_iv.specs.declared.iv.Iv.{Iv}
use Rattle.fixed_iv.specs.declared.vec3.Vec3.{Vec3}
use Rattle.sgp4_model.specs.Angle.{Pair}
use Rattle.sgp4_model.specs.DaySolution.{local_up}
use Rattle.sgp4_model.specs.LocalAxes.{local_east, local_north}
use Rattle.sgp4_model.specs.Sight.{IsDirection, SightRecord}
use Rattle.sgp4_model.specs.Vector.{Vector, inner_product}
use Rattle.station_view.specs.Axes.{EnclosesVector}
use Rattle.station_view.specs.SightReach.{IsHeldSight, LengthsReach, lengths_reach, range_reach, sight_reach}
use Rattle.station_view.specs.SpotPairs.{ArePairsOf}
use Rattle.station_view.specs.Toward.{EachHeldToward, EachToward}
use Rattle.station_view.specs.declared.spot.Spot.{Spot}
use Rattle.station_view.specs.declared.station.Station.{Station}
use Rattle.station_view.specs.declared.vector.Lengths.{Lengths}
use Rattle.station_view.specs.declared.vector.Sight.{Sight}

-- lengths along the local east, north and up, and the range
pub record LengthsRecord : Type 0 where
  pub east : ℚ
  pub north : ℚ
  pub up : ℚ
  pub range : ℚ

-- those of a direction at a range
abbrev pub at_range : SightRecord → ℚ → LengthsRecord
at_range v range = record { east = v.east *ℚ range; north = v.north *ℚ range; up = v.up *ℚ range; range = range }

-- those of a vector of this length
abbrev pub lengths_of : Pair → Pair → Vector → ℚ → LengthsRecord
lengths_of lat lon d range = record {
  east = inner_product d (local_east lon);
  north = inner_product d (local_north lat lon);
  up = inner_product d (local_up lat lon);
  range = range;
}

-- each length is covered at the place
pub record CoversLengths {A : Type 0} (E : Ghosts A) (lengths : Lengths A) (h : Place) (l : LengthsRecord) : Type 0 where
  pub east : E.covers lengths.east h l.east
  pub north : E.covers lengths.north h l.north
  pub up : E.covers lengths.up h l.up
  pub range : E.covers lengths.range h l.range

-- each length is covered at the place, and its enclosure is as its numerals say
pub record IsHeldLengths {A : Type 0} (E : Ghosts A) (lengths : Lengths A) (h : Place) (l : LengthsRecord) (r : LengthsReach) : Type 0 where
  pub east : Encloses E lengths.east h l.east r.east
  pub north : Encloses E lengths.north h l.north r.north
  pub up : Encloses E lengths.up h l.up r.up
  pub range : Encloses E lengths.range h l.range r.range

-- the lengths of each direction at its range are covered
abbrev pub CoversEachLengths : {A : Type 0} → Ghosts A → Station → Turn A → Vec3 A → Lengths A → Type 0
CoversEachLengths E station turn pos lengths =
    EachToward E station turn pos
    (λ h lat lon d. (range : ℚ) (v : SightRecord) → IsDirection lat lon d range v → CoversLengths E lengths h (at_range v range))

-- and held, where the square of the range is known to lie in an interval
abbrev pub HoldsEachLengths : {A : Type 0} → Ghosts A → Station → Turn A → Vec3 A → Lengths A → Type 0
HoldsEachLengths E station turn pos lengths =
    EachHeldToward E station turn pos
    (λ h lat lon d n. (range : ℚ) (v : SightRecord) (square : Interval) → IsDirection lat lon d range v → Inside square (inner_product d d) →
    IsHeldLengths E lengths h (at_range v range) (lengths_reach n (range_reach n square)))

-- the lengths of each vector that is held, with its range, are held
abbrev pub AreLengthsOf : {A : Type 0} → Ghosts A → Spot → Vec3 A → A → Lengths A → Type 0
AreLengthsOf E spot toward range result =
    (h : Place) (pi x : ℚ) (lat lon : Pair) (d : Vector) (n : VectorReach) (r : Reach) → ArePairsOf spot pi lat lon →
    EnclosesVector E toward h d n → Encloses E range h x r → IsHeldLengths E result h (lengths_of lat lon d x) (lengths_reach n r)

-- the direction of each vector whose lengths are held is held
abbrev pub IsDirectionOf : {A : Type 0} → Ghosts A → Lengths A → Sight A → Type 0
IsDirectionOf E lengths result =
    (h : Place) (x : ℚ) (lat lon : Pair) (d : Vector) (v : SightRecord) (r : LengthsReach) →
    IsHeldLengths E lengths h (lengths_of lat lon d x) r → IsDirection lat lon d x v → IsHeldSight E result h v (sight_reach r)

-- the bounds of enclosed lengths
abbrev pub bounds_of : {A : Type 0} → Ghosts A → Lengths A → Lengths Iv
bounds_of E lengths = record {
  east = (E.extent lengths.east).ends;
  north = (E.extent lengths.north).ends;
  up = (E.extent lengths.up).ends;
  range = (E.extent lengths.range).ends;
}
