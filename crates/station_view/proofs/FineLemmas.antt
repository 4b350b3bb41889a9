-- A station on a fine cell: the numerals of what it sees, the class of the range, and the square of the range.
use Rattle.std.proofs.Common.{◌≡◌, [], ◌∷◌, inl, inr, refl, List, ℕ, ◌*◌, pos, negsuc, neg_ℤ}
use Rattle.exact.specs.Rational.{ℚ, ◌+ℚ◌, ◌*ℚ◌, neg_ℚ, of_int, one_ℚ, ratio, zero_ℚ, ◌≤ℚ◌}
use Rattle.exact.proofs.RationalRing.{reads}
use Rattle.exact.proofs.Order.{gap, known, le_by, le_refl, le_trans, ◌⊕◌}
use Rattle.exact.proofs.Bounds.{le_total, square}
use Rattle.exact.proofs.Integers.{of_int_mul, ratio_is_product, ratio_neg}
use Rattle.exact.specs.Interval.{Inside}
use Rattle.exact.proofs.Intervals.{inside}
use Rattle.decimals.specs.Decimal.{value}
use Rattle.fixed_iv.specs.Place.{Place}
use Rattle.fixed_iv.specs.declared.enc.Enc.{Ghosts}
use Rattle.fixed_iv.specs.declared.vec3.Vec3.{Vec3}
use Rattle.fixed_iv.proofs.Held.{claim_held, within}
use Rattle.sgp4_model.specs.Angle.{IsNear, IsPi, Pair, part}
use Rattle.sgp4_model.specs.Degrees.{radians}
use Rattle.sgp4_model.specs.StationPlace.{in_km}
use Rattle.sgp4_model.specs.Vector.{Vector, inner_product}
use Rattle.sgp4_model.proofs.OwnPair.{own_pair, own_pair_holds}
use Rattle.sgp4_model.proofs.Powers.{le_of_squares}
use Rattle.sgp4_model.proofs.Pythagoras.{sine_pairs_are_bounded}
use Rattle.station_view.specs.Axes.{EnclosesVector}
use Rattle.station_view.specs.Fine.{AreFine, CoverOutside, IsOutside}
use Rattle.station_view.specs.SightReach.{toward_reach}
use Rattle.station_view.specs.SpotPairs.{StandsAt}
use Rattle.station_view.specs.Toward.{EnclosesTurn, toward}
use Rattle.station_view.specs.declared.station.Station.{Station}
use Rattle.earth_frame.specs.declared.rotation.Turn.{Turn}
use Rattle.station_view.proofs.ClassReach.{IsClass, IsSightClass, axial, coordinate, level, position_reach, side, square_range, turn_number, vector_reach}
use Rattle.station_view.proofs.SightClasses.{near_183, near_214, near_282, near_451, near_902, near_1804, near_3608, near_7216, near_14432, near_28864, near_57728, far_325, far_346, far_388, far_477, far_681, far_1229, far_2458, far_4916, far_9832, far_19664, far_39328, far_78656}
use Rattle.station_view.proofs.Classes.{axial_z, level_x, level_y, from_183, from_258, from_364, from_514, from_726, from_1026, from_1450, from_2050, from_2899, from_4099, from_5796, from_8196, from_11590, from_16390, from_23178, from_32778, from_46354, from_65553, from_92705}
use Rattle.station_view.proofs.FarLemmas.{apart_least, apart_most, far_least, squares_most, turned_least, turned_most}
use Rattle.station_view.proofs.NormLemmas.{height_near, place_near}
use Rattle.station_view.proofs.PlaceLemmas.{in_turn, some_place}

-- ---- the class
-- classes that follow one another from m to 10 Earth radii
AreClasses : (ℕ → ℕ → Type 0) → ℕ → List ℕ → Type 0
AreClasses C m [] = C m 100000
AreClasses C m (n ∷ ns) = C m n × AreClasses C n ns

square_at : ℕ → ℚ
square_at n = ratio (pos (n * n)) 100000000

by_classes : {P : Type 0} (C : ℕ → ℕ → Type 0) (q : ℚ) (m : ℕ) (ns : List ℕ) → AreClasses C m ns → square_at m ≤ℚ q → q ≤ℚ square_at 100000 → ((m n : ℕ) → C m n → Inside (square_range m n) q → P) → P
unfolding AreClasses square_at
by_classes C q m [] class low high use_ = use_ m 100000 class (inside (pos (m * m)) 100000000 (pos (100000 * 100000)) 100000000 low high)
by_classes C q m (n ∷ ns) class low high use_ =
    elim (le_total q (square_at n)) [
      | inl h ↦ use_ m n class.0 (inside (pos (m * m)) 100000000 (pos (n * n)) 100000000 low h)
      | inr h ↦ by_classes C q n ns class.1 h high use_
    ]

below_ten : (q : ℚ) → q ≤ℚ ratio (pos 100) 1 → q ≤ℚ square_at 100000
unfolding square_at
below_ten q high = le_trans high (le_by [] (known 0 1) (search reads depth 90) tt)

length_classes : AreClasses IsClass 183 (258 ∷ 364 ∷ 514 ∷ 726 ∷ 1026 ∷ 1450 ∷ 2050 ∷ 2899 ∷ 4099 ∷ 5796 ∷ 8196 ∷ 11590 ∷ 16390 ∷ 23178 ∷ 32778 ∷ 46354 ∷ 65553 ∷ 92705 ∷ [])
unfolding AreClasses
length_classes = (from_183, (from_258, (from_364, (from_514, (from_726, (from_1026, (from_1450, (from_2050, (from_2899, (from_4099, (from_5796, (from_8196, (from_11590, (from_16390, (from_23178, (from_32778, (from_46354, (from_65553, from_92705))))))))))))))))))

near_classes : AreClasses (IsSightClass 562949953421) 183 (214 ∷ 282 ∷ 451 ∷ 902 ∷ 1804 ∷ 3608 ∷ 7216 ∷ 14432 ∷ 28864 ∷ 57728 ∷ [])
unfolding AreClasses
near_classes = (near_183, (near_214, (near_282, (near_451, (near_902, (near_1804, (near_3608, (near_7216, (near_14432, (near_28864, near_57728))))))))))

far_classes : AreClasses (IsSightClass 281474976710) 325 (346 ∷ 388 ∷ 477 ∷ 681 ∷ 1229 ∷ 2458 ∷ 4916 ∷ 9832 ∷ 19664 ∷ 39328 ∷ 78656 ∷ [])
unfolding AreClasses
far_classes = (far_325, (far_346, (far_388, (far_477, (far_681, (far_1229, (far_2458, (far_4916, (far_9832, (far_19664, (far_39328, far_78656)))))))))))

pub in_a_class : {P : Type 0} (q : ℚ) → ratio (pos 33489) 100000000 ≤ℚ q → q ≤ℚ ratio (pos 100) 1 → ((m n : ℕ) → IsClass m n → Inside (square_range m n) q → P) → P
unfolding square_at
in_a_class q low high use_ = by_classes IsClass q 183 (258 ∷ 364 ∷ 514 ∷ 726 ∷ 1026 ∷ 1450 ∷ 2050 ∷ 2899 ∷ 4099 ∷ 5796 ∷ 8196 ∷ 11590 ∷ 16390 ∷ 23178 ∷ 32778 ∷ 46354 ∷ 65553 ∷ 92705 ∷ []) length_classes low (below_ten q high) use_

pub in_a_near_class : {P : Type 0} (q : ℚ) → ratio (pos 33489) 100000000 ≤ℚ q → q ≤ℚ ratio (pos 100) 1 → ((m n : ℕ) → IsSightClass 562949953421 m n → Inside (square_range m n) q → P) → P
unfolding square_at
in_a_near_class q low high use_ = by_classes (IsSightClass 562949953421) q 183 (214 ∷ 282 ∷ 451 ∷ 902 ∷ 1804 ∷ 3608 ∷ 7216 ∷ 14432 ∷ 28864 ∷ 57728 ∷ []) near_classes low (below_ten q high) use_

pub in_a_far_class : {P : Type 0} (q : ℚ) → ratio (pos 105625) 100000000 ≤ℚ q → q ≤ℚ ratio (pos 100) 1 → ((m n : ℕ) → IsSightClass 281474976710 m n → Inside (square_range m n) q → P) → P
unfolding square_at
in_a_far_class q low high use_ = by_classes (IsSightClass 281474976710) q 325 (346 ∷ 388 ∷ 477 ∷ 681 ∷ 1229 ∷ 2458 ∷ 4916 ∷ 9832 ∷ 19664 ∷ 39328 ∷ 78656 ∷ []) far_classes low (below_ten q high) use_

whole_square : (n : ℕ) → of_int (pos (n * n)) ≡ of_int (pos n) *ℚ of_int (pos n)
whole_square n = rw (← of_int_mul) refl

-- a component is no longer than the range
component : (n : ℕ) (x q : ℚ) → q ≤ℚ ratio (pos (n * n)) 100000000 → x *ℚ x ≤ℚ q → Inside (side n) x
component n x q high less =
    let h = le_trans less (le_trans high (same n)) in
    inside (neg_ℤ (pos n)) 10000 (pos n) 10000
    (rw (ratio_neg (pos n) 10000) (opposite x (ratio (pos n) 10000) (le_of_squares (known n 10000) (mirrored x h))))
    (le_of_squares (known n 10000) h)
  where
    same : (n : ℕ) → ratio (pos (n * n)) 100000000 ≤ℚ ratio (pos n) 10000 *ℚ ratio (pos n) 10000
    same n = rw (ratio_is_product (pos (n * n)) 100000000, ratio_is_product (pos n) 10000, whole_square n) (le_by (of_int (pos n) ∷ []) (known 0 1) (search reads depth 90) tt)

    mirrored : {m : ℚ} (x : ℚ) → x *ℚ x ≤ℚ m → neg_ℚ x *ℚ neg_ℚ x ≤ℚ m
    mirrored {m} x h = le_by (x ∷ m ∷ []) (gap h) (search reads depth 90) tt

    opposite : (x c : ℚ) → neg_ℚ x ≤ℚ c → neg_ℚ c ≤ℚ x
    opposite x c h = le_by (x ∷ c ∷ []) (gap h) (search reads depth 90) tt

part_of : (x y z q : ℚ) → x *ℚ x +ℚ y *ℚ y +ℚ z *ℚ z ≤ℚ q → (x *ℚ x ≤ℚ q) × (y *ℚ y ≤ℚ q) × (z *ℚ z ≤ℚ q)
part_of x y z q h = (
  le_by (x ∷ y ∷ z ∷ q ∷ []) (gap h ⊕ square y ⊕ square z) (search reads depth 90) tt,
  le_by (x ∷ y ∷ z ∷ q ∷ []) (gap h ⊕ square x ⊕ square z) (search reads depth 90) tt,
  le_by (x ∷ y ∷ z ∷ q ∷ []) (gap h ⊕ square x ⊕ square y) (search reads depth 90) tt,
)

-- the vector to a position, in its class
pub in_class : (m n : ℕ) {A : Type 0} {E : Ghosts A} {v : Vec3 A} {h : Place} (d : Vector) → Inside (square_range m n) (inner_product d d) →
    EnclosesVector E v h d (toward_reach turn_number turn_number position_reach) → EnclosesVector E v h d (vector_reach n)
unfolding ratio
in_class m n d is held =
    let part = part_of d.x d.y d.z (inner_product d d) (le_refl _) in
    record {
      x = claim_held (side n) (within level held.x level_x) (component n d.x (inner_product d d) is.high part.0);
      y = claim_held (side n) (within level held.y level_y) (component n d.y (inner_product d d) is.high part.1);
      z = claim_held (side n) (within axial held.z axial_z) (component n d.z (inner_product d d) is.high part.2);
    }

-- ---- the numerals of a fine cell
pub turn_held : {A : Type 0} {E : Ghosts A} {turn : Turn A} {position : Vec3 A} → AreFine E turn position → (w : CoverOutside E turn position) → EnclosesTurn E turn w.place w.pair turn_number turn_number
turn_held fine w =
    let small = sine_pairs_are_bounded w.pi w.angle w.pair.sine w.pair.cosine w.is_pi w.is_pair in
    record {
      of_sine = record { covers = w.turns.sine; known = λ _ _. record { inside = in_turn w.pair.sine small.0; measured = fine.sine.measured; narrow = fine.sine.spread } };
      of_cosine = record { covers = w.turns.cosine; known = λ _ _. record { inside = in_turn w.pair.cosine small.1; measured = fine.cosine.measured; narrow = fine.cosine.spread } };
    }

within_4 : {x : ℚ} → IsNear (ratio (pos 4) 1) x zero_ℚ → Inside coordinate.range x
within_4 {x} h = inside (negsuc 3) 1 (pos 4) 1 (le_by (x ∷ []) (gap h.below) (search reads depth 90) tt) (le_by (x ∷ []) (gap h.above) (search reads depth 90) tt)

pub position_held : {A : Type 0} {E : Ghosts A} {turn : Turn A} {position : Vec3 A} → AreFine E turn position → (w : CoverOutside E turn position) → EnclosesVector E position w.place w.vector position_reach
position_held fine w = record {
  x = record { covers = w.covers.x; known = λ _ _. record { inside = within_4 w.outside.x; measured = fine.x.measured; narrow = fine.x.spread } };
  y = record { covers = w.covers.y; known = λ _ _. record { inside = within_4 w.outside.y; measured = fine.y.measured; narrow = fine.y.spread } };
  z = record { covers = w.covers.z; known = λ _ _. record { inside = within_4 w.outside.z; measured = fine.z.measured; narrow = fine.z.spread } };
}

-- ---- a station stands somewhere
pub record Stands (station : Station) (pi : ℚ) : Type 0 where
  pub lat : Pair
  pub lon : Pair
  pub place : Vector
  pub is : StandsAt station pi lat lon place

pub stands : (station : Station) (pi : ℚ) → IsPi pi → Stands station pi
stands station pi is_pi =
    let lat = value station.spot.lat in
    let lon = value station.spot.lon in
    let is_lat = own_pair_holds is_pi (radians pi lat) in
    let some = some_place lat (own_pair pi (radians pi lat)) (own_pair pi (radians pi lon)) (in_km (value station.height)) is_pi is_lat in
    record {
      lat = own_pair pi (radians pi lat);
      lon = own_pair pi (radians pi lon);
      place = some.place;
      is = record { pairs = record { is_pi = is_pi; is_latitude = is_lat; is_longitude = own_pair_holds is_pi (radians pi lon) }; is_place = some.is };
    }

-- ---- the square of the range
-- it is between 0.0183^2 and 100
pub record IsInSight (q : ℚ) : Type 0 where
  pub least : ratio (pos 33489) 100000000 ≤ℚ q
  pub most : q ≤ℚ ratio (pos 100) 1

pub in_sight : {station : Station} {pi : ℚ} {lat lon : Pair} {place : Vector} (pair : Pair) (r : Vector) → StandsAt station pi lat lon place → IsPi pi →
    IsNear (part 58) (pair.sine *ℚ pair.sine +ℚ pair.cosine *ℚ pair.cosine) one_ℚ → IsOutside r → IsInSight (inner_product (toward pair r place) (toward pair r place))
in_sight {station} {pi} {lat} {lon} {place} pair r is is_pi near outside =
    let high = height_near station.height_range in
    let short = place_near _ _ _ lat lon place is_pi is.pairs.is_latitude is.pairs.is_longitude high.0 high.1 is.is_place in
    let low = turned_least r pair (ratio (pos 104) 100) near (known 104 100) outside.square in
    let most = turned_most r pair (ratio (pos 48) 1) near (squares_most r.x r.y r.z outside.x outside.y outside.z) in
    record {
      least = le_trans (le_by [] (known 11 100000000) (search reads depth 90) tt) (apart_least _ place (le_trans (le_by [] (known 1125899906801999 11258999068426240000000) (search reads depth 90) tt) low) short);
      most = le_trans (apart_most _ place _ most short) (le_by [] (known 280675024826844268773 140737488355328000000) (search reads depth 90) tt);
    }

-- and at least 0.0325^2, where the position is further out
pub far_in_sight : {station : Station} {pi : ℚ} {lat lon : Pair} {place : Vector} (pair : Pair) (r : Vector) → StandsAt station pi lat lon place → IsPi pi →
    IsNear (part 58) (pair.sine *ℚ pair.sine +ℚ pair.cosine *ℚ pair.cosine) one_ℚ → ratio (pos 1069) 1000 ≤ℚ inner_product r r →
    ratio (pos 105625) 100000000 ≤ℚ inner_product (toward pair r place) (toward pair r place)
far_in_sight {station} {pi} {lat} {lon} {place} pair r is is_pi near far =
    let high = height_near station.height_range in
    let short = place_near _ _ _ lat lon place is_pi is.pairs.is_latitude is.pairs.is_longitude high.0 high.1 is.is_place in
    let low = turned_least r pair (ratio (pos 1069) 1000) near (known 1069 1000) far in
    le_trans (le_by [] (known 50 1000000000) (search reads depth 90) tt) (far_least _ place (le_trans (le_by [] (known 18014398508813859 180143985094819840000000) (search reads depth 90) tt) low) short)
