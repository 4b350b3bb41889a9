-- What a station, the Earth's turn and a position give: the vector from the one to the other, and its direction.
use Rattle.exact.specs.Rational.{ℚ}
use Rattle.exact.specs.Interval.{Inside, Interval}
use Rattle.fixed_iv.specs.EnclosedVector.{CoversVector, VectorReach}
use Rattle.earth_frame.specs.declared.rotation.Turn.{Turn}
use Rattle.fixed_iv.specs.Follows.{Encloses}
use Rattle.fixed_iv.specs.Place.{Place}
use Rattle.fixed_iv.specs.Reach.{Reach}
use Rattle.fixed_iv.specs.declared.enc.Enc.{Ghosts}
use Rattle.fixed_iv.specs.declared.vec3.Vec3.{Vec3}
use Rattle.sgp4_model.specs.Angle.{Pair}
use Rattle.sgp4_model.specs.LocalAxes.{difference}
use Rattle.sgp4_model.specs.Sidereal.{earth_fixed}
use Rattle.sgp4_model.specs.Sight.{IsDirection, SightRecord}
use Rattle.sgp4_model.specs.Vector.{Vector, inner_product}
use Rattle.station_view.specs.Axes.{EnclosesVector, inner_reach}
use Rattle.station_view.specs.SightReach.{CoversSight, IsHeldSight, LieAbove4096th, lengths_reach, range_reach, sight_reach, toward_reach}
use Rattle.station_view.specs.SpotPairs.{StandsAt}
use Rattle.station_view.specs.declared.station.Station.{Station}
use Rattle.station_view.specs.declared.vector.Sight.{Sight}

-- both numbers of the pair are covered at the place
pub record CoversTurn {A : Type 0} (E : Ghosts A) (turn : Turn A) (h : Place) (pair : Pair) : Type 0 where
  pub sine : E.covers turn.sin h pair.sine
  pub cosine : E.covers turn.cos h pair.cosine

-- and as their numerals say
pub record EnclosesTurn {A : Type 0} (E : Ghosts A) (turn : Turn A) (h : Place) (pair : Pair) (sine cosine : Reach) : Type 0 where
  pub of_sine : Encloses E turn.sin h pair.sine sine
  pub of_cosine : Encloses E turn.cos h pair.cosine cosine

-- the vector from the station's place to a position, Earth-fixed
abbrev pub toward : Pair → Vector → Vector → Vector
toward pair r place = difference (earth_fixed pair r) place

-- a fact of each station's pairs and place, each pair of the turn and each position that are covered at a place
abbrev pub EachToward : {A : Type 0} → Ghosts A → Station → Turn A → Vec3 A → (Place → Pair → Pair → Vector → Type 0) → Type 0
EachToward E station turn pos fact =
    (h : Place) (pi : ℚ) (lat lon pair : Pair) (place r : Vector) → StandsAt station pi lat lon place → CoversTurn E turn h pair →
    CoversVector E.covers pos h r → fact h lat lon (toward pair r place)

-- and a fact of their numerals too
abbrev pub EachHeldToward : {A : Type 0} → Ghosts A → Station → Turn A → Vec3 A → (Place → Pair → Pair → Vector → VectorReach → Type 0) → Type 0
EachHeldToward E station turn pos fact =
    (h : Place) (pi : ℚ) (lat lon pair : Pair) (place r : Vector) (sine cosine : Reach) (n : VectorReach) → StandsAt station pi lat lon place →
    EnclosesTurn E turn h pair sine cosine → EnclosesVector E pos h r n → fact h lat lon (toward pair r place) (toward_reach sine cosine n)

-- each vector from the station to the position is held
abbrev pub HoldsEachToward : {A : Type 0} → Ghosts A → Station → Turn A → Vec3 A → Vec3 A → Type 0
HoldsEachToward E station turn pos result = EachHeldToward E station turn pos (λ h lat lon d n. EnclosesVector E result h d n)

-- each direction is covered
abbrev pub CoversEachSight : {A : Type 0} → Ghosts A → Station → Turn A → Vec3 A → Sight A → Type 0
CoversEachSight E station turn pos sight =
    EachToward E station turn pos (λ h lat lon d. (range : ℚ) (v : SightRecord) → IsDirection lat lon d range v → CoversSight E sight h v)

-- each direction is held, where the square of the range is known to lie in an interval
abbrev pub HoldsEachSight : {A : Type 0} → Ghosts A → Station → Turn A → Vec3 A → Sight A → Type 0
HoldsEachSight E station turn pos sight =
    EachHeldToward E station turn pos (λ h lat lon d n. (range : ℚ) (v : SightRecord) (square : Interval) → IsDirection lat lon d range v →
    Inside square (inner_product d d) → IsHeldSight E sight h v (sight_reach (lengths_reach n (range_reach n square))))

-- some enclosure of the square of the range, as narrow as its equations give, has bounds that do not lie above 1/4096
pub record IsUnseen {A : Type 0} (E : Ghosts A) (station : Station) (turn : Turn A) (pos : Vec3 A) : Type 0 where
  pub square : A
  pub held : EachHeldToward E station turn pos (λ h lat lon d n. Encloses E square h (inner_product d d) (inner_reach n n))
  pub near : ¬ LieAbove4096th (E.extent square).ends
