-- What a scene says of solutions: each is covered; and on a least cell some position is seen from far enough to have a direction.
use Rattle.std.proofs.Common.{[], ◌∷◌, T, ◌+◌, ◌*◌, ◌≤◌, ℕ, ℤ, pos, negsuc, neg_ℤ, arith, le_refl as nat_refl}
use Rattle.std.proofs.Math.Nat.{mul-le-mul}
use Rattle.exact.specs.Rational.{ℚ, ratio, neg_ℚ, one_ℚ, zero_ℚ, ◌+ℚ◌, ◌-ℚ◌, ◌*ℚ◌, ◌≤ℚ◌, ◌<ℚ◌}
use Rattle.exact.proofs.Bounds.{square}
use Rattle.exact.proofs.Integers.{of_int_is}
use Rattle.exact.specs.Interval.{Inside, coef_le}
use Rattle.exact.proofs.Order.{gap, known, le_by, ◌⊕◌, ◌⊗◌}
use Rattle.exact.proofs.RationalRing.{reads}
use Rattle.exact.proofs.Strict.{lt_by, positive_known, positive_sum}
use Rattle.decimals.specs.Decimal.{value}
use Rattle.fixed_iv.specs.EnclosedVector.{CoversVector, VectorReach}
use Rattle.earth_frame.specs.Spread.{IsSpreadWithin}
use Rattle.elements.specs.Elements.{IsFromTo}
use Rattle.fixed_iv.specs.Extent.{Extent}
use Rattle.fixed_iv.specs.Place.{Place}
use Rattle.fixed_iv.specs.Reach.{Reach, negative, outer, reach_of, turn_range, ◌+ᴿ◌, ◌-ᴿ◌, ◌*ᴿ◌}
use Rattle.fixed_iv.specs.declared.enc.Enc.{Ghosts}
use Rattle.fixed_iv.proofs.Held.{Contained}
use Rattle.sgp4_model.specs.Angle.{IsNear, Pair, part}
use Rattle.sgp4_model.specs.Degrees.{radians}
use Rattle.sgp4_model.specs.Numerals.{whole}
use Rattle.sgp4_model.specs.PositionAt.{IsPositionAt}
use Rattle.sgp4_model.specs.Records.{SetRecord, StationRecord}
use Rattle.sgp4_model.specs.Sidereal.{in_ut1, sidereal_angle}
use Rattle.sgp4_model.specs.Solution.{IsSolution, SolutionRecord}
use Rattle.sgp4_model.specs.StationPlace.{in_km}
use Rattle.sgp4_model.specs.Vector.{Vector, inner_product}
use Rattle.sgp4_model.proofs.MeanExists.{pair_exists}
use Rattle.sgp4_model.proofs.PlaceExists.{place_exists}
use Rattle.sgp4_model.proofs.Pythagoras.{sine_pairs_are_bounded, squares_add_up_to_one}
use Rattle.sgp4_model.proofs.RangeLemmas.{toward_square_least}
use Rattle.station_view.specs.Axes.{EnclosesVector, inner_reach}
use Rattle.station_view.specs.Fine.{AreFine, CoverOutside, IsOutside}
use Rattle.station_view.specs.SightReach.{toward_reach}
use Rattle.station_view.specs.SpotPairs.{StandsAt}
use Rattle.station_view.specs.Toward.{CoversEachSight, EnclosesTurn, IsUnseen, toward}
use Rattle.station_view.specs.declared.station.Station.{Station}
use Rattle.station_view.specs.declared.vector.Sight.{Sight}
use Rattle.orbit_sight.specs.Over.{CellRecord, EachPositionIsFarOut, IsFarOut, instant_on}
use Rattle.orbit_sight.specs.Scene.{CoversEachSolution, CoversScene, IsLeastScene, record_of_station}
use Rattle.orbit_sight.specs.TakenBoxes.{cell_position}
use Rattle.orbit_sight.specs.declared.scene.Scene.{Scene}
use Rattle.orbit_sight.proofs.GuardLemmas.{above, low_inside}

-- ---- a solution's position, and where its station stands
pub position_of_solution : {set : SetRecord} {row : StationRecord} {at : ℚ} {dut1 : ℤ} {s : SolutionRecord} → (p : IsSolution set row at dut1 s) → IsPositionAt set at p.position
position_of_solution {s = s} p = record {
  pi = p.pi;
  pi_is = p.is_pi;
  constants = s.constants;
  constants_are = p.are_constants;
  mean = p.mean;
  mean_is = p.is_mean;
  root = p.root;
  position_is = p.is_position;
}

pub stands : {set : SetRecord} {at : ℚ} {dut1 : ℤ} {s : SolutionRecord} (station : Station) → (p : IsSolution set (record_of_station station) at dut1 s) →
    StandsAt station p.pi p.is_sight.of_latitude p.is_sight.of_longitude p.is_sight.place
stands station p = record {
  pairs = record { is_pi = p.is_pi; is_latitude = p.is_sight.is_latitude; is_longitude = p.is_sight.is_longitude };
  is_place = p.is_sight.is_place;
}

pub as_vector : {A : Type 0} (E : Ghosts A) (scene : Scene A) {h : Place} {r : Vector} → CoversVector E.covers scene.position h r → CoversVector E.covers scene.position h r
as_vector E scene c = record { x = c.x; y = c.y; z = c.z }

-- ---- the size of a sine
pub in_turn : (z : ℚ) → IsNear (part 60 +ℚ one_ℚ) z zero_ℚ → Inside turn_range z
unfolding ratio
in_turn z h = record { low = low; high = high }
  where
    low : ratio (negsuc 100000) 100000 ≤ℚ z
    low = le_by (z ∷ []) (gap h.below ⊕ known 36028797018960843 3602879701896396800000) (search reads depth 90) tt

    high : z ≤ℚ ratio (pos 100001) 100000
    high = le_by (z ∷ []) (gap h.above ⊕ known 36028797018960843 3602879701896396800000) (search reads depth 90) tt

-- numerals of the pair of the turn over a least cell, of the vector from a station to the position, and of its square
abbrev pub turn_reach : Reach
turn_reach = reach_of turn_range 2291264

abbrev pub position_reach : VectorReach
position_reach = record { x = cell_position.x; y = cell_position.y; z = cell_position.z }

abbrev pub least_toward : VectorReach
least_toward = toward_reach turn_reach turn_reach position_reach

square_ok : T (inner_reach least_toward least_toward).ok
unfolding ◌+ᴿ◌ ◌-ᴿ◌ ◌*ᴿ◌ negative
square_ok = tt

-- of the square, where it is at least 0.00105
abbrev far_square : Reach
far_square = record {
  ok = (inner_reach least_toward least_toward).ok;
  range = record { low = record { num = pos 105; under = 99999 }; high = (inner_reach least_toward least_toward).range.high };
  spread = (inner_reach least_toward least_toward).spread;
}

square_high : T (coef_le (record { num = pos 1; under = 3999 }) (outer far_square).low)
unfolding ◌+ᴿ◌ ◌-ᴿ◌ ◌*ᴿ◌ negative
square_high = tt

above_4096th : (z : ℚ) → ratio (pos 1) 4000 ≤ℚ z → ratio (pos 1) 4096 <ℚ z
above_4096th z h = lt_by (z ∷ []) (positive_sum (positive_known 2 512000) (gap h)) (search reads depth 90) tt

pub metres_low : (x : ℚ) → IsFromTo (neg_ℤ (pos 500)) (pos 9000) x → neg_ℚ (ratio (pos 500) 1) ≤ℚ x
metres_low x range = let low = rw (of_int_is (neg_ℤ (pos 500))) at range.least in le_by (x ∷ []) (gap low) (search reads depth 90) tt

pub metres_high : (x : ℚ) → IsFromTo (neg_ℤ (pos 500)) (pos 9000) x → x ≤ℚ ratio (pos 9000) 1
metres_high x range = rw (of_int_is (pos 9000)) at range.most

module _ {A : Type 0} (E : Ghosts A) (set : SetRecord) (dut1 : ℤ) (cell : CellRecord) (scene : Scene A) (station : Station) (covered : CoversScene set dut1 cell E scene) where
  -- the direction of each solution is covered
  pub sight_covered : {sight : Sight A} → CoversEachSight E station scene.turn scene.position sight → CoversEachSolution set (record_of_station station) dut1 cell E sight
  sight_covered covers h s p =
      let v = p.is_sight in
      covers h p.pi v.of_latitude v.of_longitude v.turn v.place p.position (stands station p) (covered.turns h p.pi v.turn p.is_pi v.is_sidereal)
      (as_vector E scene (covered.positions h p.position (position_of_solution p))) s.range s.sight v.is_direction

  -- ---- a least cell
  module _ (law : Contained E.covers E.extent) (told : T E.tells) (far : EachPositionIsFarOut set cell) (least : IsLeastScene set dut1 cell E scene) where
    -- a position at some place of it, the pair of the turn there, and where the station stands with the same pi
    pub record SomeSight : Type 0 where
      pub h : Place
      pub pi : ℚ
      pub lat : Pair
      pub lon : Pair
      pub pair : Pair
      pub place : Vector
      pub r : Vector
      pub is_stood : StandsAt station pi lat lon place
      pub of_turn : EnclosesTurn E scene.turn h pair turn_reach turn_reach
      pub of_position : EnclosesVector E scene.position h r position_reach
      pub square : ratio (pos 105) 100000 ≤ℚ inner_product (toward pair r place) (toward pair r place)

    pub some_sight : SomeSight
    some_sight =
        let q = least.position in
        let p = q.is in
        let lat = pair_exists p.pi (radians p.pi (value station.spot.lat)) p.pi_is in
        let lon = pair_exists p.pi (radians p.pi (value station.spot.lon)) p.pi_is in
        let angle = sidereal_angle p.pi (in_ut1 dut1 (instant_on cell q.at)) in
        let turn = pair_exists p.pi angle p.pi_is in
        let place = place_exists p.pi (radians p.pi (value station.spot.lat)) lat.0 lon.0 (in_km (value station.height)) p.pi_is lat.1 in
        let pair = covered.turns q.at p.pi turn.0 p.pi_is turn.1 in
        let small = sine_pairs_are_bounded p.pi angle turn.0.sine turn.0.cosine p.pi_is turn.1 in
        record {
          h = q.at;
          pi = p.pi;
          lat = lat.0;
          lon = lon.0;
          pair = turn.0;
          place = place.0;
          r = q.r;
          is_stood = record { pairs = record { is_pi = p.pi_is; is_latitude = lat.1; is_longitude = lon.1 }; is_place = place.1 };
          of_turn = record {
            of_sine = record { covers = pair.sine; known = λ t _. record { inside = in_turn turn.0.sine small.0; measured = least.sine.measured; narrow = least.sine.spread } };
            of_cosine = record { covers = pair.cosine; known = λ t _. record { inside = in_turn turn.0.cosine small.1; measured = least.cosine.measured; narrow = least.cosine.spread } };
          };
          of_position = record { x = q.held.x; y = q.held.y; z = q.held.z };
          square =
              toward_square_least lat.0 lon.0 turn.0 (value station.height) place.0 q.r
              (squares_add_up_to_one p.pi (radians p.pi (value station.spot.lat)) lat.0.sine lat.0.cosine p.pi_is lat.1)
              (squares_add_up_to_one p.pi (radians p.pi (value station.spot.lon)) lon.0.sine lon.0.cosine p.pi_is lon.1)
              (squares_add_up_to_one p.pi angle turn.0.sine turn.0.cosine p.pi_is turn.1)
              (metres_low (value station.height) station.height_range) (metres_high (value station.height) station.height_range) place.1 (far q.at q.r p).square;
        }

    -- so a direction is found
    pub not_unseen : IsUnseen E station scene.turn scene.position → ⊥
    unfolding ratio
    not_unseen u =
        let s = some_sight in
        let held = u.held s.h s.pi s.lat s.lon s.pair s.place s.r turn_reach turn_reach position_reach s.is_stood s.of_turn s.of_position in
        let k = held.known told square_ok in
        let x = inner_product (toward s.pair s.r s.place) (toward s.pair s.r s.place) in
        let low = low_inside (E.extent u.square) x far_square (record { inside = record { low = s.square; high = k.inside.high }; measured = k.measured; narrow = k.narrow }) (law u.square s.h x held.covers) in
        u.near (above_4096th _ (above (pos 1) 3999 _ _ square_high low.low))

-- ---- a least cell is fine, and at some place of it a position outside is covered
-- a number whose square, with others, is at most 12.1 is at most 4 in size
near_4 : (x y z : ℚ) → x *ℚ x +ℚ y *ℚ y +ℚ z *ℚ z ≤ℚ ratio (pos 121) 10 → IsNear (whole 4) x zero_ℚ
near_4 x y z most = record {
  above = le_by (x ∷ y ∷ z ∷ []) (known 1 8 ⊗ (gap most ⊕ known 39 10 ⊕ square y ⊕ square z ⊕ square (x -ℚ ratio (pos 4) 1))) (search reads depth 90) tt;
  below = le_by (x ∷ y ∷ z ∷ []) (known 1 8 ⊗ (gap most ⊕ known 39 10 ⊕ square y ⊕ square z ⊕ square (x +ℚ ratio (pos 4) 1))) (search reads depth 90) tt;
}

is_outside : (r : Vector) → IsFarOut r → IsOutside r
is_outside r far = record {
  x = near_4 r.x r.y r.z far.most;
  y = near_4 r.y r.x r.z (le_by (r.x ∷ r.y ∷ r.z ∷ []) (gap far.most) (search reads depth 90) tt);
  z = near_4 r.z r.x r.y (le_by (r.x ∷ r.y ∷ r.z ∷ []) (gap far.most) (search reads depth 90) tt);
  square = le_by (r.x ∷ r.y ∷ r.z ∷ []) (gap far.square ⊕ known 29 1000) (search reads depth 90) tt;
}

module _ {A : Type 0} (E : Ghosts A) (set : SetRecord) (dut1 : ℤ) (cell : CellRecord) (scene : Scene A) (covered : CoversScene set dut1 cell E scene) (told : T E.tells) (far : EachPositionIsFarOut set cell)
    (least : IsLeastScene set dut1 cell E scene) where
  pub are_fine : AreFine E scene.turn scene.position
  are_fine = record { tells = told; x = least.position.spread.x; y = least.position.spread.y; z = least.position.spread.z; sine = least.sine; cosine = least.cosine }

  pub cover_outside : CoverOutside E scene.turn scene.position
  cover_outside =
      let q = least.position in
      let angle = sidereal_angle q.is.pi (in_ut1 dut1 (instant_on cell q.at)) in
      let turn = pair_exists q.is.pi angle q.is.pi_is in
      record {
        place = q.at;
        pi = q.is.pi;
        angle = angle;
        pair = turn.0;
        vector = q.r;
        is_pi = q.is.pi_is;
        is_pair = turn.1;
        turns = covered.turns q.at q.is.pi turn.0 q.is.pi_is turn.1;
        covers = record { x = q.held.x.covers; y = q.held.y.covers; z = q.held.z.covers };
        outside = is_outside q.r (far q.at q.r q.is);
      }

  pub outside_far : ratio (pos 1069) 1000 ≤ℚ inner_product cover_outside.vector cover_outside.vector
  unfolding cover_outside
  outside_far = (far least.position.at least.position.r least.position.is).square

-- ---- a spread that goes with that of the time
pub spread_by : {m : ℕ} (k d n : ℕ) {t e : Extent} → IsSpreadWithin m t → k * m + d ≤ n → IsSpreadWithin (k * t.spread + d) e → IsSpreadWithin n e
spread_by {m} k d n {t} {e} s r h = record { measured = h.measured; spread = let g = mul-le-mul (nat_refl k) s.spread in omega (arith, g, h.spread) }

pub turn_room : 80 * 28640 + 64 ≤ 2291264
turn_room = omega arith
