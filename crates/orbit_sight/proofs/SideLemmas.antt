-- From a scene to the side of the mask on which each solution is, at each place of a window.
use Rattle.std.proofs.Common.{◌≡◌, ◌∙◌, ap, sym, subst, inl, inr, List, [], ◌∷◌, ◌<◌, ℕ, ℤ, pos}
use Rattle.exact.specs.Rational.{ℚ, of_int, neg_ℚ, ratio, zero_ℚ, ◌+ℚ◌, ◌-ℚ◌, ◌*ℚ◌, ◌/ℚ◌, ◌≤ℚ◌, ◌<ℚ◌}
use Rattle.exact.proofs.Order.{gap, known, le_by, ◌⊕◌, ◌⊗◌}
use Rattle.exact.proofs.RationalRing.{ring, reads}
use Rattle.exact.proofs.Strict.{lt_by, positive_above, positive_known, positive_sum, quotient_le}
use Rattle.decimals.specs.Decimal.{value}
use Rattle.fixed_iv.specs.Place.{Place, on_line}
use Rattle.fixed_iv.specs.declared.enc.Enc.{Ghosts}
use Rattle.fixed_iv.proofs.Held.{Contained}
use Rattle.sgp4_model.specs.Angle.{IsPi, part}
use Rattle.sgp4_model.specs.Degrees.{radians}
use Rattle.sgp4_model.specs.EachSolution.{OfEach}
use Rattle.sgp4_model.specs.Grazing.{EachSolution, GrazesMask}
use Rattle.sgp4_model.specs.Mask.{GrazesBy, SomeSector}
use Rattle.sgp4_model.specs.Numerals.{decimal}
use Rattle.sgp4_model.specs.Records.{SetRecord, StationRecord}
use Rattle.sgp4_model.specs.Sectors.{AreMaskPairs, SectorPairs, SectorSides, TouchesBy, sides_of}
use Rattle.sgp4_model.specs.Sidereal.{in_ut1, sidereal_angle}
use Rattle.sgp4_model.specs.Sight.{SightRecord}
use Rattle.sgp4_model.specs.Solution.{IsSolution, SolutionRecord}
use Rattle.sgp4_model.specs.Time.{IsWithin, Throughout, instant_of_place}
use Rattle.sgp4_model.proofs.Pythagoras.{squares_add_up_to_one}
use Rattle.sgp4_model.proofs.RangeLemmas.{range_least, toward_square_least}
use Rattle.sgp4_model.proofs.SolutionExists.{solution_exists}
use Rattle.station_view.specs.Bounds.{HoldLengths, HoldSight}
use Rattle.station_view.specs.Fine.{sight_bounds}
use Rattle.station_view.specs.Judged.{AreNarrowLengths, EveryLengths, GrazesWithinLength}
use Rattle.station_view.specs.Lengths.{CoversEachLengths, CoversLengths, at_range, bounds_of}
use Rattle.station_view.specs.Masks.{records_of}
use Rattle.station_view.specs.declared.station.Station.{Station}
use Rattle.station_view.specs.declared.vector.Lengths.{Lengths}
use Rattle.station_view.specs.declared.vector.Sight.{Sight}
use Rattle.orbit_sight.specs.Over.{CellRecord, EachPlaceHasAPosition, EachPositionIsFarOut, cell_of, instant_on}
use Rattle.orbit_sight.specs.Scene.{CoversEachSolution, CoversScene, record_of_station}
use Rattle.orbit_sight.specs.declared.scene.Scene.{Scene}
use Rattle.orbit_sight.proofs.CellLemmas.{on_ticks}
use Rattle.orbit_sight.proofs.SceneLemmas.{as_vector, metres_high, metres_low, position_of_solution, stands}

-- ---- each place of a window's cell is a place of the cell
record OnCell (m n : ℕ) (p : ℚ) : Type 0 where
  at : Place
  is : on_line at (of_int (pos m)) (of_int (pos n)) ≡ p

on_cell : (m n : ℕ) (p : ℚ) → m < n → IsWithin m n p → OnCell m n p
on_cell m n p h w =
    let o = on_ticks m n p h w in
    record { at = o.at; is = unscaled o.at.at (of_int (pos m)) (of_int (pos n)) p o.is }
  where
    unscaled : (h f g p : ℚ) → ratio (pos 1) 2 *ℚ ((ratio (pos 1) 1 -ℚ h) *ℚ (f *ℚ ratio (pos 1) 9830400000) +ℚ (ratio (pos 1) 1 +ℚ h) *ℚ (g *ℚ ratio (pos 1) 9830400000)) ≡ p *ℚ ratio (pos 1) 9830400000 →
        ratio (pos 1) 2 *ℚ ((ratio (pos 1) 1 -ℚ h) *ℚ f +ℚ (ratio (pos 1) 1 +ℚ h) *ℚ g) ≡ p
    unscaled h f g p e =
        ring (h ∷ f ∷ g ∷ []) {y = ratio (pos 1) 2 *ℚ ((ratio (pos 1) 1 -ℚ h) *ℚ (f *ℚ ratio (pos 1) 9830400000) +ℚ (ratio (pos 1) 1 +ℚ h) *ℚ (g *ℚ ratio (pos 1) 9830400000)) *ℚ ratio (pos 9830400000) 1} (search reads depth 90) tt
        ∙ ap (λ t. t *ℚ ratio (pos 9830400000) 1) e
        ∙ ring (p ∷ []) (search reads depth 90) tt

-- what holds of each solution at each place of the cell holds throughout
pub throughout : (set : SetRecord) (row : StationRecord) (start : ℤ) (m n : ℕ) (dut1 : ℤ) (holds : SolutionRecord → Type 0) → m < n →
    ((h : Place) → OfEach (IsSolution set row (instant_on (cell_of start m n) h) dut1) holds) → Throughout m n (EachSolution set row start dut1 holds)
throughout set row start m n dut1 holds h each p w =
    let o = on_cell m n p h w in
    subst (λ z. OfEach (IsSolution set row (instant_of_place start z) dut1) holds) o.is (each o.at)

-- what holds of each at each place of a part of the cell holds throughout it
pub throughout_part : (set : SetRecord) (row : StationRecord) (start : ℤ) (m n a b : ℕ) (dut1 : ℤ) (holds : SolutionRecord → Type 0) → m < n → ((q : ℚ) → IsWithin a b q → IsWithin m n q) →
    ((h : Place) (q : ℚ) → IsWithin a b q → on_line h (of_int (pos m)) (of_int (pos n)) ≡ q → OfEach (IsSolution set row (instant_on (cell_of start m n) h) dut1) holds) →
    Throughout a b (EachSolution set row start dut1 holds)
throughout_part set row start m n a b dut1 holds longer inside each q w =
    let o = on_cell m n q longer (inside q w) in
    subst (λ z. OfEach (IsSolution set row (instant_of_place start z) dut1) holds) o.is (each o.at q w o.is)

-- ---- the bounds of a direction hold it
pub sight_throughout : {A : Type 0} (E : Ghosts A) → Contained E.covers E.extent → (set : SetRecord) (row : StationRecord) (start : ℤ) (m n : ℕ) (dut1 : ℤ) (sight : Sight A) → m < n →
    CoversEachSolution set row dut1 (cell_of start m n) E sight →
    Throughout m n (λ p. (s : SolutionRecord) → IsSolution set row (instant_of_place start p) dut1 s → HoldSight (sight_bounds E sight) s.sight)
sight_throughout E law set row start m n dut1 sight h covers p w s is =
    let o = on_cell m n p h w in
    let c = covers o.at s (subst (λ z. IsSolution set row (instant_of_place start z) dut1 s) (sym o.is) is) in
    record { east = law _ o.at _ c.east; north = law _ o.at _ c.north; up = law _ o.at _ c.up }

-- ---- a larger bound
touches_more : {b c : ℚ} (sector : SectorSides) (v : SightRecord) → b ≤ℚ c → TouchesBy b sector v → TouchesBy c sector v
touches_more {b} {c} sector v h t = record { from = lower t.from; to = lower t.to }
  where
    lower : {x : ℚ} → neg_ℚ b ≤ℚ x → neg_ℚ c ≤ℚ x
    lower {x} k = le_by (b ∷ c ∷ x ∷ []) (gap k ⊕ gap h) (search reads depth 90) tt

some_more : {P Q : SectorSides → Type 0} → ((s : SectorSides) → P s → Q s) → (sectors : List SectorSides) → SomeSector P sectors → SomeSector Q sectors
some_more f [] h = h
some_more f (s ∷ sectors) (inl h) = inl (f s h)
some_more f (s ∷ sectors) (inr h) = inr (some_more f sectors h)

pub grazes_more : {b c : ℚ} (sectors : List SectorSides) (v : SightRecord) → b ≤ℚ c → GrazesBy b sectors v → GrazesBy c sectors v
grazes_more {b} {c} sectors v h g = record {
  low = some_more (λ s t. record { touches = touches_more s v h t.touches; up = le_by (b ∷ c ∷ v.up ∷ s.floor ∷ []) (gap t.up ⊕ gap h) (search reads depth 90) tt }) sectors g.low;
  high = some_more (λ s t. record { touches = touches_more s v h t.touches; up = le_by (b ∷ c ∷ v.up ∷ s.floor ∷ []) (gap t.up ⊕ gap h) (search reads depth 90) tt }) sectors g.high;
}

-- ---- the range of a solution
range_positive : (x : ℚ) → ratio (pos 323) 10000 ≤ℚ x → zero_ℚ <ℚ x
range_positive x h = lt_by (x ∷ []) (positive_sum (positive_known 322 10000) (gap h)) (search reads depth 90) tt

-- 2^-15 Earth radii are seen below 0.001 there
small_at : (x : ℚ) → ratio (pos 323) 10000 ≤ℚ x → part 15 /ℚ x ≤ℚ decimal 1 3
small_at x h = quotient_le (positive_above (positive_known 322 10000) h) (le_by (x ∷ []) (known 1 1000 ⊗ gap h ⊕ known 4563 2560000000) (search reads depth 90) tt)

module _ {A : Type 0} (E : Ghosts A) (law : Contained E.covers E.extent) (set : SetRecord) (dut1 : ℤ) (cell : CellRecord) (scene : Scene A) (station : Station) (covered : CoversScene set dut1 cell E scene)
    (exists : EachPlaceHasAPosition set cell) (far : EachPositionIsFarOut set cell) where
  row : StationRecord
  row = record_of_station station

  range_of : (h : Place) (s : SolutionRecord) → IsSolution set (record_of_station station) (instant_on cell h) dut1 s → ratio (pos 323) 10000 ≤ℚ s.range
  range_of h s p =
      let v = p.is_sight in
      range_least
      (toward_square_least v.of_latitude v.of_longitude v.turn (value station.height) v.place p.position
      (squares_add_up_to_one p.pi (radians p.pi (value station.spot.lat)) v.of_latitude.sine v.of_latitude.cosine p.is_pi v.is_latitude)
      (squares_add_up_to_one p.pi (radians p.pi (value station.spot.lon)) v.of_longitude.sine v.of_longitude.cosine p.is_pi v.is_longitude)
      (squares_add_up_to_one p.pi (sidereal_angle p.pi (in_ut1 dut1 (instant_on cell h))) v.turn.sine v.turn.cosine p.is_pi v.is_sidereal)
      (metres_low (value station.height) station.height_range) (metres_high (value station.height) station.height_range) v.is_place (far h p.position (position_of_solution p)).square)
      v.is_direction.range_is

  -- the lengths of each solution are covered
  lengths_covered : {lengths : Lengths A} → CoversEachLengths E station scene.turn scene.position lengths → (h : Place) (s : SolutionRecord) → IsSolution set (record_of_station station) (instant_on cell h) dut1 s →
      CoversLengths E lengths h (at_range s.sight s.range)
  lengths_covered covers h s p =
      let v = p.is_sight in
      covers h p.pi v.of_latitude v.of_longitude v.turn v.place p.position (stands station p) (covered.turns h p.pi v.turn p.is_pi v.is_sidereal)
      (as_vector E scene (covered.positions h p.position (position_of_solution p))) s.range s.sight v.is_direction

  -- what holds of every direction and range that are covered at a place holds of each solution; and there is one
  pub each_covered : {lengths : Lengths A} (fact : List SectorSides → SightRecord → Type 0) → CoversEachLengths E station scene.turn scene.position lengths → (h : Place) →
      ((pi : ℚ) (pairs : List SectorPairs) (v : SightRecord) (range : ℚ) → IsPi pi → AreMaskPairs pi (records_of station.mask) pairs → zero_ℚ <ℚ range → CoversLengths E lengths h (at_range v range) → fact (sides_of pairs) v) →
      OfEach (IsSolution set (record_of_station station) (instant_on cell h) dut1) (λ s. fact s.sectors s.sight)
  each_covered fact covers h every = record {
    some = let r = exists h in solution_exists set (record_of_station station) (instant_on cell h) dut1 r.0 r.1;
    each = λ s p.
        subst (λ z. fact z s.sight) (sym p.sectors_are)
        (every p.pi p.pairs s.sight s.range p.is_pi p.are_pairs (range_positive s.range (range_of h s p)) (lengths_covered covers h s p));
  }

  -- the lengths of each solution lie in the bounds
  lengths_hold : {lengths : Lengths A} → CoversEachLengths E station scene.turn scene.position lengths → (h : Place) (s : SolutionRecord) → IsSolution set (record_of_station station) (instant_on cell h) dut1 s →
      HoldLengths (bounds_of E lengths) (at_range s.sight s.range)
  lengths_hold {lengths} covers h s p =
      let v = p.is_sight in
      let c = covers h p.pi v.of_latitude v.of_longitude v.turn v.place p.position (stands station p) (covered.turns h p.pi v.turn p.is_pi v.is_sidereal)
      (as_vector E scene (covered.positions h p.position (position_of_solution p))) s.range s.sight v.is_direction in
      record { east = law _ h _ c.east; north = law _ h _ c.north; up = law _ h _ c.up; range = law _ h _ c.range }

  -- what holds of every direction and range in the bounds holds of each solution; and there is one
  pub each_solution : {lengths : Lengths A} (fact : ℚ → List SectorSides → SightRecord → Type 0) → CoversEachLengths E station scene.turn scene.position lengths → EveryLengths fact (bounds_of E lengths) station.mask →
      (h : Place) → OfEach (IsSolution set (record_of_station station) (instant_on cell h) dut1) (λ s. fact s.range s.sectors s.sight)
  each_solution fact covers every h = record {
    some = let r = exists h in solution_exists set (record_of_station station) (instant_on cell h) dut1 r.0 r.1;
    each = λ s p.
        subst (λ z. fact s.range z s.sight) (sym p.sectors_are)
        (every p.pi p.pairs s.sight s.range p.is_pi p.are_pairs (range_positive s.range (range_of h s p)) (lengths_hold covers h s p));
  }

  -- where the bounds are narrow by 2^-15, each solution grazes
  pub each_grazes : {lengths : Lengths A} → CoversEachLengths E station scene.turn scene.position lengths → GrazesWithinLength (bounds_of E lengths) station.mask → AreNarrowLengths (part 15) (bounds_of E lengths) station.mask →
      (h : Place) → OfEach (IsSolution set (record_of_station station) (instant_on cell h) dut1) GrazesMask
  each_grazes covers grazes narrow h =
      let within = each_solution (λ range sectors v. GrazesBy (part 15 /ℚ range) sectors v) covers (grazes (part 15) narrow) h in
      record {
        some = within.some;
        each = λ s p.
            let sharp = within.each s p in
            let small = small_at s.range (range_of h s p) in
            record {
              simple = λ _. grazes_more s.sectors s.sight (le_by ((part 15 /ℚ s.range) ∷ []) (gap small ⊕ known 1 1000) (search reads depth 90) tt) sharp;
              other = λ _. grazes_more s.sectors s.sight small sharp;
              sharp = sharp;
            };
      }
