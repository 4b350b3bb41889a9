-- The daylight product over a cell of a window: what an enclosure of it covers, and its numerals.
use Rattle.std.specs.Prelude.{ℕ, ℤ, pos, negsuc}
use Rattle.exact.specs.Rational.{ℚ}
use Rattle.decimals.specs.Decimal.{value}
use Rattle.fixed_iv.specs.EnclosedVector.{VectorReach}
use Rattle.earth_frame.specs.HeldVector.{rotated}
use Rattle.fixed_iv.specs.Follows.{Encloses}
use Rattle.fixed_iv.specs.Place.{Place}
use Rattle.fixed_iv.specs.Reach.{Reach, from_to}
use Rattle.fixed_iv.specs.declared.enc.Enc.{Ghosts}
use Rattle.fixed_iv.specs.declared.vec3.Vec3.{Vec3}
use Rattle.sgp4_model.specs.Angle.{Pair}
use Rattle.sgp4_model.specs.Certified.{TrackRecord}
use Rattle.sgp4_model.specs.DaySolution.{EachDaySolution, IsDaySolution, day_track, local_up}
use Rattle.sgp4_model.specs.Sidereal.{earth_fixed}
use Rattle.sgp4_model.specs.Time.{IsWithin, instant_of_place}
use Rattle.sgp4_model.specs.Vector.{Vector, inner_product}
use Rattle.station_view.specs.Axes.{EnclosesVector, axis, inner_reach}
use Rattle.station_view.specs.SpotPairs.{ArePairsOf}
use Rattle.station_view.specs.declared.spot.Spot.{Spot}
use Rattle.orbit_sight.specs.Cell.{CoversSomewhere}
use Rattle.orbit_sight.specs.Over.{CellRecord, instant_on}

-- the track of daylight at a spot
abbrev pub day_of : Spot → ℤ → ℤ → ℕ → TrackRecord
day_of spot start dut1 ticks = day_track (value spot.lat) (value spot.lon) start dut1 ticks

-- at a place of a window there is a day solution of the spot, and a fact holds of each one's product
abbrev pub EachLight : Spot → ℤ → ℤ → (ℚ → Type 0) → ℚ → Type 0
EachLight spot start dut1 holds = EachDaySolution (value spot.lat) (value spot.lon) start dut1 holds

-- the product of each day solution of the spot at each place of the cell is covered
abbrev pub CoversEachDay : {A : Type 0} → Ghosts A → Spot → ℤ → ℤ → ℕ → ℕ → A → Type 0
CoversEachDay E spot start dut1 from to result =
    (place product : ℚ) → IsWithin from to place → IsDaySolution (value spot.lat) (value spot.lon) (instant_of_place start place) dut1 product →
    CoversSomewhere E.covers result product

-- at each place of the cell the product of each day solution of the spot is covered
abbrev pub CoversEachDayAlong : {A : Type 0} → Ghosts A → Spot → ℤ → CellRecord → A → Type 0
CoversEachDayAlong E spot dut1 cell result =
    (h : Place) (product : ℚ) → IsDaySolution (value spot.lat) (value spot.lon) (instant_on cell h) dut1 product → E.covers result h product

-- of a direction: each component is at most 1.001 in size, and has at most this spread
abbrev pub direction : ℕ → VectorReach
direction spread = record {
  x = from_to (negsuc 1000) (pos 1001) 1000 spread;
  y = from_to (negsuc 1000) (pos 1001) 1000 spread;
  z = from_to (negsuc 1000) (pos 1001) 1000 spread;
}

-- the product of each turn and each Sun is enclosed, whatever pairs the spot's angles have
abbrev pub EnclosesEachLight : {A : Type 0} → Ghosts A → Spot → A → A → Vec3 A → A → Type 0
EnclosesEachLight E spot sin cos sun result =
    (h : Place) (pi : ℚ) (lat lon turn : Pair) (vector : Vector) (sine cosine : Reach) (r : VectorReach) → ArePairsOf spot pi lat lon →
    Encloses E sin h turn.sine sine → Encloses E cos h turn.cosine cosine → EnclosesVector E sun h vector r →
    Encloses E result h (inner_product (local_up lat lon) (earth_fixed turn vector)) (inner_reach axis (rotated sine cosine r))
