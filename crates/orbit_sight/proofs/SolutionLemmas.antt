-- A set that is taken has a position at each time within seven days of its epoch. The time is in units of 16,384 minutes from there.
use Rattle.std.proofs.Common.{◌≡◌, subst, true, [], ◌∷◌, ◌*◌, ◌^◌, ◌-◌, pos, negsuc}
use Rattle.exact.specs.Rational.{ℚ, abs_ℚ, inverse, ratio, one_ℚ, zero_ℚ, ◌+ℚ◌, ◌-ℚ◌, ◌*ℚ◌, ◌/ℚ◌, ◌^ℚ◌, ◌≤ℚ◌, ◌<ℚ◌}
use Rattle.exact.proofs.Bounds.{abs_le}
use Rattle.exact.specs.Interval.{Inside, between}
use Rattle.exact.proofs.Intervals.{inside, le_on}
use Rattle.exact.proofs.Order.{gap, known, le_by, ◌⊕◌, ◌⊗◌}
use Rattle.exact.proofs.RationalRing.{ring, reads}
use Rattle.exact.proofs.Strict.{Positive, le_quotient, lt_by, not_zero, positive_known, positive_product, positive_sum, quotient_le, positive_above}
use Rattle.elements.specs.Elements.{ElementsRecord, IsElements, record_of_elements}
use Rattle.enc_plain.specs.declared.plain.Plain.{Plain}
use Rattle.enc_plain.proofs.PlainHeld.{middle}
use Rattle.sgp4_periodic.specs.Box.{IsInBox}
use Rattle.sgp4_shape.specs.Expected.{IsInDragBox}
use Rattle.orbit_sight.specs.TakenBoxes.{taken_drag, taken_position}
use Rattle.sgp4_init.specs.ReachConsts.{reach_consts}
use Rattle.sgp4_init.proofs.ConstantsExist.{constants_exist}
use Rattle.sgp4_model.specs.Angle.{IsNear, IsPi, IsSinCos, Pair, least_pi, part}
use Rattle.sgp4_model.specs.Constants.{IsConsts}
use Rattle.sgp4_model.specs.MeanElements.{IsEccentricityGuarded, IsMeanUnguarded, SecularRecord}
use Rattle.sgp4_model.specs.Numerals.{IsDivisor}
use Rattle.sgp4_model.specs.OrbitRecords.{ConstRecord, MeanRecord}
use Rattle.sgp4_model.specs.Position.{IsPositionUnguarded, PeriodicRecord}
use Rattle.sgp4_model.specs.Vector.{Vector}
use Rattle.sgp4_model.proofs.MeanExists.{mean_elements_exist}
use Rattle.sgp4_model.proofs.PositionExists.{position_exists}
use Rattle.sgp4_model.proofs.Pythagoras.{sine_pairs_are_bounded}
use Rattle.sgp4_shape.specs.Covering.{unit_minutes}
use Rattle.sgp4_shape.specs.HeldConsts.{IsHeldConsts}
use Rattle.sgp4_shape.specs.declared.consts.Consts.{Consts}
use Rattle.orbit_sight.specs.Craft.{IsCraft, plain_covers, plain_extent}
use Rattle.orbit_sight.proofs.SomePi.{some_pi}
use Rattle.orbit_sight.proofs.DistanceLemmas.{IsNearOrbit, distance_above, position_in_box}
use Rattle.orbit_sight.proofs.OrbitLemmas.{WeekInside, axis_above, bend_small, eccentricity_guarded, near_orbit}

-- ---- the eccentricity vector
abbrev pub divisor : MeanRecord → ℚ
divisor m = m.am *ℚ (one_ℚ -ℚ m.em ^ℚ 2)

-- the semilatus rectum of the mean elements is at least 1
product_above : (a f e : ℚ) → Inside (between (pos 10470) 10000 (pos 19214) 10000) a → Inside (between (pos 998) 1000 (pos 1002) 1000) f → Inside (between (pos 0) 10000 (pos 2007) 10000) e → one_ℚ ≤ℚ a *ℚ f ^ℚ 2 *ℚ (one_ℚ -ℚ e ^ℚ 2)
product_above a f e i j k =
    le_on (10 ^ 30) (between (pos 10470) 10000 (pos 19214) 10000 ∷ between (pos 998) 1000 (pos 1002) 1000 ∷ between (pos 0) 10000 (pos 2007) 10000 ∷ []) (a ∷ f ∷ e ∷ []) (i, (j, (k, tt))) (search reads depth 120) tt

-- a small number stays small over a divisor of at least 1
part_inside : (a y : ℚ) → one_ℚ ≤ℚ y → IsNear (ratio (pos 1173) 1000000) a zero_ℚ → Inside (between (negsuc 1173) 1000000 (pos 1174) 1000000) (one_ℚ /ℚ y *ℚ a)
part_inside a y h n =
    let p = positive_above (positive_known 0 1) h in
    let high : a /ℚ y ≤ℚ ratio (pos 1173) 1000000 = quotient_le p (le_by (a ∷ y ∷ []) (gap n.above ⊕ known 1173 1000000 ⊗ gap h) (search reads depth 90) tt) in
    let low : ratio (negsuc 1172) 1000000 ≤ℚ a /ℚ y = le_quotient p (le_by (a ∷ y ∷ []) (gap n.below ⊕ known 1173 1000000 ⊗ gap h) (search reads depth 90) tt) in
    inside (negsuc 1173) 1000000 (pos 1174) 1000000
    (le_by (a ∷ inverse y ∷ []) (gap low ⊕ known 1 1000000) (search reads depth 90) tt)
    (le_by (a ∷ inverse y ∷ []) (gap high ⊕ known 1 1000000) (search reads depth 90) tt)

turn_inside : (s : ℚ) → IsNear (part 60 +ℚ one_ℚ) s zero_ℚ → Inside (between (negsuc 100000) 100000 (pos 100001) 100000) s
turn_inside s h =
    inside (negsuc 100000) 100000 (pos 100001) 100000
    (le_by (s ∷ []) (gap h.below ⊕ known (2 ^ 60 - 100000) (100000 * 2 ^ 60)) (search reads depth 90) tt)
    (le_by (s ∷ []) (gap h.above ⊕ known (2 ^ 60 - 100000) (100000 * 2 ^ 60)) (search reads depth 90) tt)

-- the components of the eccentricity vector
first_inside : (e c : ℚ) → Inside (between (pos 0) 10000 (pos 2007) 10000) e → Inside (between (negsuc 100000) 100000 (pos 100001) 100000) c → Inside (between (negsuc 2007) 10000 (pos 2008) 10000) (e *ℚ c)
first_inside e c i j =
    inside (negsuc 2007) 10000 (pos 2008) 10000
    (le_on (10 ^ 30) (between (pos 0) 10000 (pos 2007) 10000 ∷ between (negsuc 100000) 100000 (pos 100001) 100000 ∷ []) (e ∷ c ∷ []) (i, (j, tt)) (search reads depth 90) tt)
    (le_on (10 ^ 30) (between (pos 0) 10000 (pos 2007) 10000 ∷ between (negsuc 100000) 100000 (pos 100001) 100000 ∷ []) (e ∷ c ∷ []) (i, (j, tt)) (search reads depth 90) tt)

second_inside : (e s p : ℚ) → Inside (between (pos 0) 10000 (pos 2007) 10000) e → Inside (between (negsuc 100000) 100000 (pos 100001) 100000) s → Inside (between (negsuc 1173) 1000000 (pos 1174) 1000000) p → Inside (between (negsuc 2019) 10000 (pos 2020) 10000) (e *ℚ s +ℚ p)
second_inside e s p i j k =
    inside (negsuc 2019) 10000 (pos 2020) 10000
    (le_on (10 ^ 30) (between (pos 0) 10000 (pos 2007) 10000 ∷ between (negsuc 100000) 100000 (pos 100001) 100000 ∷ between (negsuc 1173) 1000000 (pos 1174) 1000000 ∷ []) (e ∷ s ∷ p ∷ []) (i, (j, (k, tt))) (search reads depth 90) tt)
    (le_on (10 ^ 30) (between (pos 0) 10000 (pos 2007) 10000 ∷ between (negsuc 100000) 100000 (pos 100001) 100000 ∷ between (negsuc 1173) 1000000 (pos 1174) 1000000 ∷ []) (e ∷ s ∷ p ∷ []) (i, (j, (k, tt))) (search reads depth 90) tt)

size_first : (x : ℚ) → Inside (between (negsuc 2007) 10000 (pos 2008) 10000) x → abs_ℚ x ≤ℚ ratio (pos 2009) 10000
size_first x i =
    abs_le
    (le_on (10 ^ 30) (between (negsuc 2007) 10000 (pos 2008) 10000 ∷ []) (x ∷ []) (i, tt) (search reads depth 90) tt)
    (le_on (10 ^ 30) (between (negsuc 2007) 10000 (pos 2008) 10000 ∷ []) (x ∷ []) (i, tt) (search reads depth 90) tt)

size_second : (x : ℚ) → Inside (between (negsuc 2019) 10000 (pos 2020) 10000) x → abs_ℚ x ≤ℚ ratio (pos 2021) 10000
size_second x i =
    abs_le
    (le_on (10 ^ 30) (between (negsuc 2019) 10000 (pos 2020) 10000 ∷ []) (x ∷ []) (i, tt) (search reads depth 90) tt)
    (le_on (10 ^ 30) (between (negsuc 2019) 10000 (pos 2020) 10000 ∷ []) (x ∷ []) (i, tt) (search reads depth 90) tt)

-- what the square of the eccentricity vector leaves of 1
rest_above : (x y : ℚ) → Inside (between (negsuc 2007) 10000 (pos 2008) 10000) x → Inside (between (negsuc 2019) 10000 (pos 2020) 10000) y → ratio (pos 9) 10 ≤ℚ one_ℚ -ℚ (x ^ℚ 2 +ℚ y ^ℚ 2)
rest_above x y i j = le_on (10 ^ 30) (between (negsuc 2007) 10000 (pos 2008) 10000 ∷ between (negsuc 2019) 10000 (pos 2020) 10000 ∷ []) (x ∷ y ∷ []) (i, (j, tt)) (search reads depth 90) tt

module _ (k : ConstRecord) (m : MeanRecord) (f pi : ℚ) (is_pi : IsPi pi) (orbit : IsNearOrbit k m f) (axis : ratio (pos 10470) 10000 ≤ℚ k.a) where
  of_e : Inside (between (pos 0) 10000 (pos 2007) 10000) m.em
  of_e =
      inside (pos 0) 10000 (pos 2007) 10000
      (le_by (m.em ∷ []) (gap orbit.em_low) (search reads depth 90) tt)
      (le_by (m.em ∷ k.e ∷ []) (gap orbit.em_high ⊕ gap orbit.most) (search reads depth 90) tt)

  pub divisor_above : one_ℚ ≤ℚ divisor m
  divisor_above =
      rw orbit.am_is
      (product_above k.a f m.em (inside (pos 10470) 10000 (pos 19214) 10000 axis orbit.axis) (inside (pos 998) 1000 (pos 1002) 1000 orbit.factor_low orbit.factor_high) of_e)

  pub divides : IsDivisor (divisor m)
  divides = not_zero (positive_above (positive_known 0 1) divisor_above)

  pub vector_inside : (turn : Pair) (ax ay : ℚ) → IsSinCos pi m.wm turn.sine turn.cosine → ax ≡ m.em *ℚ turn.cosine → ay ≡ m.em *ℚ turn.sine +ℚ one_ℚ /ℚ divisor m *ℚ k.aycof →
      Inside (between (negsuc 2007) 10000 (pos 2008) 10000) ax × Inside (between (negsuc 2019) 10000 (pos 2020) 10000) ay
  vector_inside turn ax ay pair ax_is ay_is =
      let small = sine_pairs_are_bounded pi m.wm turn.sine turn.cosine is_pi pair in (
        rw ax_is (first_inside m.em turn.cosine of_e (turn_inside turn.cosine small.1)),
        rw ay_is (second_inside m.em turn.sine _ of_e (turn_inside turn.sine small.0) (part_inside k.aycof (divisor m) divisor_above orbit.aycof)),
      )

  -- the axis of the mean elements is above 0: it is a factor of what is at least 1
  axis_positive : Positive m.am
  axis_positive =
      rw orbit.am_is
      (positive_above (positive_known 0 1)
      (le_on (10 ^ 30) (between (pos 10470) 10000 (pos 19214) 10000 ∷ between (pos 998) 1000 (pos 1002) 1000 ∷ []) (k.a ∷ f ∷ [])
      (inside (pos 10470) 10000 (pos 19214) 10000 axis orbit.axis, (inside (pos 998) 1000 (pos 1002) 1000 orbit.factor_low orbit.factor_high, tt)) (search reads depth 90) tt))

  -- and at least 1
  pub axis_at_least_1 : one_ℚ ≤ℚ m.am
  axis_at_least_1 =
      rw orbit.am_is
      (le_on (10 ^ 30) (between (pos 10470) 10000 (pos 19214) 10000 ∷ between (pos 998) 1000 (pos 1002) 1000 ∷ []) (k.a ∷ f ∷ [])
      (inside (pos 10470) 10000 (pos 19214) 10000 axis orbit.axis, (inside (pos 998) 1000 (pos 1002) 1000 orbit.factor_low orbit.factor_high, tt)) (search reads depth 90) tt)

  pub guards : (turn : Pair) (ax ay : ℚ) → IsSinCos pi m.wm turn.sine turn.cosine → ax ≡ m.em *ℚ turn.cosine → ay ≡ m.em *ℚ turn.sine +ℚ one_ℚ /ℚ divisor m *ℚ k.aycof →
      (abs_ℚ ax +ℚ abs_ℚ ay ≤ℚ one_ℚ -ℚ part 48) × (zero_ℚ <ℚ m.am *ℚ (one_ℚ -ℚ (ax ^ℚ 2 +ℚ ay ^ℚ 2)))
  guards turn ax ay pair ax_is ay_is =
      let v = vector_inside turn ax ay pair ax_is ay_is in (
        le_by (abs_ℚ ax ∷ abs_ℚ ay ∷ []) (gap (size_first ax v.0) ⊕ gap (size_second ay v.1) ⊕ known (597 * 2 ^ 48 - 1000) (1000 * 2 ^ 48)) (search reads depth 90) tt,
        lt_by (m.am ∷ ax ∷ ay ∷ []) (positive_product axis_positive (positive_above (positive_known 8 10) (rest_above ax ay v.0 v.1))) (search reads depth 90) tt,
      )

-- ---- the solution, with what is known on the way
pub record Solution (set : ElementsRecord) (x : ℚ) (consts : Consts Plain) : Type 0 where
  pub constants : ConstRecord
  pub constants_are : IsConsts (record_of_elements set) least_pi constants
  pub held : IsHeldConsts plain_covers plain_extent true consts middle constants reach_consts
  pub secular : SecularRecord
  pub mean : MeanRecord
  pub mean_is : IsMeanUnguarded constants (unit_minutes 1 *ℚ x) secular least_pi mean
  pub eccentricity : IsEccentricityGuarded secular.ecc
  pub axis : one_ℚ ≤ℚ mean.am
  pub divides : IsDivisor (divisor mean)
  pub root : ℚ
  pub periodic : PeriodicRecord
  pub position : Vector
  pub position_is : IsPositionUnguarded constants mean periodic least_pi root position
  pub drag_in_box : IsInDragBox constants taken_drag
  pub far : ratio (pos 1034) 1000 ≤ℚ periodic.mrt
  pub in_box : IsInBox periodic taken_position

pub solution : (set : ElementsRecord) (x : ℚ) (consts : Consts Plain) → IsElements set → IsCraft set consts → WeekInside x → Solution set x consts
solution set x consts elements craft week =
    let constants = constants_exist set least_pi elements some_pi craft.ordinary craft.limits craft.near_earth in
    let k = constants.0 in
    let held = craft.held middle least_pi k some_pi constants.1 in
    let found = mean_elements_exist k least_pi (unit_minutes 1 *ℚ x) some_pi in
    let s = found.0 in
    let m = found.1.0 in
    let orbit = near_orbit (record_of_elements set) least_pi x k m s consts some_pi craft.near_earth constants.1 held week found.1.1 in
    let axis = axis_above (record_of_elements set) least_pi x k m s consts some_pi craft.near_earth constants.1 held week found.1.1 in
    let parted = divides k m s.tempa least_pi some_pi orbit axis in
    let placed = position_exists k m least_pi some_pi parted (guards k m s.tempa least_pi some_pi orbit axis) in
    record {
      constants = k;
      constants_are = constants.1;
      held = held;
      secular = s;
      mean = m;
      mean_is = found.1.1;
      eccentricity = eccentricity_guarded (record_of_elements set) least_pi x k m s consts some_pi craft.near_earth constants.1 held week found.1.1;
      axis = axis_at_least_1 k m s.tempa least_pi some_pi orbit axis;
      divides = parted;
      root = placed.0;
      periodic = placed.1.0;
      position = placed.1.1.0;
      position_is = placed.1.1.1;
      far = distance_above k m placed.1.0 s.tempa least_pi placed.0 placed.1.1.0 some_pi orbit placed.1.1.1;
      drag_in_box = λ _. bend_small (record_of_elements set) least_pi x k m s consts some_pi craft.near_earth constants.1 held week found.1.1;
      in_box = position_in_box k m placed.1.0 s.tempa least_pi placed.0 placed.1.1.0 some_pi orbit placed.1.1.1;
    }
