-- The distance of a position, and its eccentricity vector, where the perigee is at least 300 km high.
use Rattle.std.proofs.Common.{[], ◌∷◌, ◌^◌, pos, negsuc, subst, sym, ap, ◌∙◌, ◌≡◌}
use Rattle.exact.specs.Rational.{ℚ, ◌+ℚ◌, ◌-ℚ◌, ◌*ℚ◌, ◌/ℚ◌, ◌^ℚ◌, inverse, neg_ℚ, ratio, one_ℚ, zero_ℚ, ◌≤ℚ◌}
use Rattle.exact.proofs.RationalRing.{ring, reads}
use Rattle.exact.proofs.Bounds.{square}
use Rattle.exact.proofs.Strict.{mul_inverse}
use Rattle.exact.proofs.Order.{◌⊕◌, ◌⊗◌, gap, known, le_by, not_negative}
use Rattle.exact.specs.Interval.{Inside, between}
use Rattle.exact.proofs.Intervals.{inside, le_on}
use Rattle.sgp4_model.specs.Numerals.{decimal, whole}
use Rattle.sgp4_model.specs.Angle.{IsPi, IsNear, part}
use Rattle.sgp4_model.specs.OrbitRecords.{ConstRecord, MeanRecord}
use Rattle.sgp4_model.specs.Position.{PeriodicRecord, IsPositionUnguarded}
use Rattle.sgp4_model.specs.Vector.{Vector}
use Rattle.sgp4_model.proofs.Pythagoras.{sine_pairs_are_bounded, squares_add_up_to_one}
use Rattle.orbit_sight.proofs.NearOrbitLemmas.{axis, eccentricity, turn, tilt, first, second, product, length, small_product, distance, latitude, ends, pairs_near, reciprocal, axis_above, axis_inside, eccentricity_inside, mean_rectum_above, pairs_below, turn_inside, reciprocal_inside}
use Rattle.orbit_sight.proofs.PeriodicLemmas.{tilt_inside, first_inside, second_inside, sizes_below, inner_inside, outer_inside, length_inside, inner_below, inner_small, change_small, distance_from, distance_inside, root_inside, rectum_above, factors_inside, corrected_above, corrected_below, distance_most}
use Rattle.sgp4_periodic.proofs.PairLemmas.{pair_sized}
use Rattle.sgp4_periodic.specs.Box.{IsInBox}
use Rattle.kepler_enc.specs.Guess.{AreSized}
use Rattle.orbit_sight.proofs.LatitudeLemmas.{both_above, both_below, length_within, sine_small, squares_above, squares_below}
use Rattle.orbit_sight.specs.TakenBoxes.{taken_position}

-- what is known of the constants and mean elements of an orbit whose perigee is at least 300 km high, within seven days of its epoch
pub record IsNearOrbit (k : ConstRecord) (m : MeanRecord) (factor : ℚ) : Type 0 where
  pub perigee : ratio (pos 10470) 10000 ≤ℚ k.a *ℚ (one_ℚ -ℚ k.e)
  pub axis : k.a ≤ℚ ratio (pos 19214) 10000
  pub least : zero_ℚ ≤ℚ k.e
  pub most : k.e ≤ℚ ratio (pos 1) 5
  pub am_is : m.am ≡ k.a *ℚ factor ^ℚ 2
  pub factor_low : ratio (pos 998) 1000 ≤ℚ factor
  pub factor_high : factor ≤ℚ ratio (pos 1002) 1000
  pub em_low : zero_ℚ ≤ℚ m.em
  pub em_high : m.em ≤ℚ k.e +ℚ ratio (pos 7) 10000
  pub cosine : IsNear (ratio (pos 100001) 100000) k.c zero_ℚ
  pub con41_low : ratio (negsuc 1000) 1000 ≤ℚ k.con41
  pub con41_high : k.con41 ≤ℚ ratio (pos 2001) 1000
  pub aycof : IsNear (ratio (pos 1173) 1000000) k.aycof zero_ℚ

module _ (k : ConstRecord) (m : MeanRecord) (q : PeriodicRecord) (factor pi root : ℚ) (r : Vector) (is_pi : IsPi pi) (orbit : IsNearOrbit k m factor) (position : IsPositionUnguarded k m q pi root r) where
  -- ---- the mean elements and the pairs
  axis_low : ratio (pos 10470) 10000 ≤ℚ k.a
  axis_low = axis_above k.a k.e orbit.perigee orbit.least orbit.most

  of_axis : Inside axis m.am
  of_axis = subst (Inside axis) (sym orbit.am_is) (axis_inside k.a factor axis_low orbit.axis orbit.factor_low orbit.factor_high)

  of_eccentricity : Inside eccentricity m.em
  of_eccentricity = eccentricity_inside k.e m.em orbit.most orbit.em_low orbit.em_high

  perigee_bounded : IsNear (part 60 +ℚ one_ℚ) q.of_wm.sine zero_ℚ × IsNear (part 60 +ℚ one_ℚ) q.of_wm.cosine zero_ℚ
  perigee_bounded = sine_pairs_are_bounded pi m.wm q.of_wm.sine q.of_wm.cosine is_pi position.long_period.wm_pair

  root_bounded : IsNear (part 60 +ℚ one_ℚ) q.of_root.sine zero_ℚ × IsNear (part 60 +ℚ one_ℚ) q.of_root.cosine zero_ℚ
  root_bounded = sine_pairs_are_bounded pi root q.of_root.sine q.of_root.cosine is_pi position.kepler.pair

  pairs_bounded : q.of_wm.cosine *ℚ q.of_root.cosine +ℚ q.of_wm.sine *ℚ q.of_root.sine ≤ℚ ratio (pos 10001) 10000
  pairs_bounded =
      pairs_below q.of_wm.sine q.of_wm.cosine q.of_root.sine q.of_root.cosine
      (squares_add_up_to_one pi m.wm q.of_wm.sine q.of_wm.cosine is_pi position.long_period.wm_pair)
      (squares_add_up_to_one pi root q.of_root.sine q.of_root.cosine is_pi position.kepler.pair)

  of_sine : Inside turn q.of_root.sine
  of_sine = turn_inside root_bounded.0

  of_cosine : Inside turn q.of_root.cosine
  of_cosine = turn_inside root_bounded.1

  -- ---- the eccentricity vector
  of_coefficient : Inside (between (negsuc 1172) 1000000 (pos 1173) 1000000) k.aycof
  of_coefficient =
      inside (negsuc 1172) 1000000 (pos 1173) 1000000 (le_by (k.aycof ∷ []) (gap orbit.aycof.below) (search reads depth 90) tt) (le_by (k.aycof ∷ []) (gap orbit.aycof.above) (search reads depth 90) tt)

  of_tilt : Inside tilt (q.v *ℚ k.aycof)
  of_tilt =
      subst (λ t. Inside tilt (t *ℚ k.aycof)) (sym position.long_period.v_is)
      (tilt_inside (m.am *ℚ (one_ℚ -ℚ m.em ^ℚ 2)) k.aycof (reciprocal_inside (mean_rectum_above m.am m.em of_axis of_eccentricity)) of_coefficient)

  of_first : Inside first q.ax
  of_first = subst (Inside first) (sym position.long_period.ax_is) (first_inside m.em q.of_wm.cosine of_eccentricity (turn_inside perigee_bounded.1))

  of_second : Inside second q.ay
  of_second = subst (Inside second) (sym position.long_period.ay_is) (second_inside m.em q.of_wm.sine (q.v *ℚ k.aycof) of_eccentricity (turn_inside perigee_bounded.0) of_tilt)

  of_length : Inside length q.el
  of_length = subst (Inside length) (sym position.preliminaries.el_is) (length_inside q.ax q.ay of_first of_second)

  of_inner : Inside product q.ec
  of_inner = subst (Inside product) (sym position.preliminaries.ec_is) (inner_inside q.ax q.ay q.of_root.sine q.of_root.cosine of_first of_second of_sine of_cosine)

  of_outer : Inside product q.es
  of_outer = subst (Inside product) (sym position.preliminaries.es_is) (outer_inside q.ax q.ay q.of_root.sine q.of_root.cosine of_first of_second of_sine of_cosine)

  inner_near : q.ec ≤ℚ k.e +ℚ ratio (pos 21) 10000
  inner_near =
      rw (position.preliminaries.ec_is, position.long_period.ax_is, position.long_period.ay_is)
      (inner_below k.e m.em q.of_wm.sine q.of_wm.cosine q.of_root.sine q.of_root.cosine (q.v *ℚ k.aycof) orbit.em_high of_eccentricity of_tilt of_sine pairs_bounded)

  -- ---- the distance before its correction
  distance_low : ratio (pos 1038) 1000 ≤ℚ m.am *ℚ (one_ℚ -ℚ q.ec)
  distance_low =
      subst (λ t. ratio (pos 1038) 1000 ≤ℚ t *ℚ (one_ℚ -ℚ q.ec)) (sym orbit.am_is)
      (distance_from k.a k.e factor q.ec orbit.perigee axis_low orbit.axis orbit.factor_low orbit.factor_high inner_near)

  of_distance : Inside distance q.rl
  of_distance = subst (Inside distance) (sym position.preliminaries.rl_is) (distance_inside m.am q.ec of_axis of_inner distance_low)

  -- ---- its correction
  of_square_root : Inside (between (pos 0) 1 (pos 105) 100) q.b
  of_square_root = root_inside q.el q.b of_length position.preliminaries.b_is

  rectum_low : ratio (pos 95) 100 ≤ℚ q.pl
  rectum_low = subst (λ t. ratio (pos 95) 100 ≤ℚ t) (sym position.preliminaries.pl_is) (rectum_above m.am q.el of_axis of_length)

  of_factor : Inside (between (pos 0) 1 (pos 58) 100000) q.k1
  of_factor = rw position.argument_of_latitude.k1_is (factors_inside q.pl rectum_low).0

  of_second_factor : Inside (between (pos 0) 1 (pos 62) 100000) q.k2
  of_second_factor = rw (position.argument_of_latitude.k2_is, position.argument_of_latitude.k1_is) (factors_inside q.pl rectum_low).1

  -- ---- the argument of latitude
  of_small_inner : Inside small_product q.ec
  of_small_inner =
      rw (position.preliminaries.ec_is, position.long_period.ax_is, position.long_period.ay_is)
      (inner_small m.em q.of_wm.sine q.of_wm.cosine q.of_root.sine q.of_root.cosine (q.v *ℚ k.aycof) of_eccentricity of_tilt of_sine
      (pairs_near q.of_wm.sine q.of_wm.cosine q.of_root.sine q.of_root.cosine
      (squares_add_up_to_one pi m.wm q.of_wm.sine q.of_wm.cosine is_pi position.long_period.wm_pair)
      (squares_add_up_to_one pi root q.of_root.sine q.of_root.cosine is_pi position.kepler.pair)))

  of_small_distance : Inside (between (pos 1038) 1000 (pos 2330) 1000) q.rl
  of_small_distance = subst (Inside (between (pos 1038) 1000 (pos 2330) 1000)) (sym position.preliminaries.rl_is) (inside (pos 1038) 1000 (pos 2330) 1000 distance_low (distance_most m.am q.ec of_axis of_small_inner))

  near_square : ratio (pos 6) 10 ≤ℚ (one_ℚ -ℚ q.ec) *ℚ (one_ℚ -ℚ q.ec)
  near_square =
      let high = (ends (negsuc 2022) 10000 (pos 2023) 10000 of_small_inner).1 in
      le_by (q.ec ∷ []) (gap high ⊗ (known 15954 10000 ⊕ gap high) ⊕ known 3632529 100000000) (search reads depth 90) tt

  over : ℚ
  over = inverse (one_ℚ +ℚ q.b)

  of_over : Inside reciprocal over
  unfolding over
  of_over = reciprocal_inside (le_by (q.b ∷ []) (not_negative position.preliminaries.b_is.root) (search reads depth 90) tt)

  first_numerator : ℚ
  first_numerator = q.of_root.sine -ℚ q.ay -ℚ q.ax *ℚ q.es *ℚ over

  second_numerator : ℚ
  second_numerator = q.of_root.cosine -ℚ q.ax +ℚ q.ay *ℚ q.es *ℚ over

  length_is : q.el ≡ q.ax *ℚ q.ax +ℚ q.ay *ℚ q.ay
  length_is = position.preliminaries.el_is ∙ ring (q.ax ∷ q.ay ∷ []) (search reads depth 90) tt

  -- the sum of their squares, of z as the outer product
  abbrev sum_with : ℚ → ℚ
  sum_with z = (q.of_root.sine -ℚ q.ay -ℚ q.ax *ℚ z *ℚ over) *ℚ (q.of_root.sine -ℚ q.ay -ℚ q.ax *ℚ z *ℚ over) +ℚ (q.of_root.cosine -ℚ q.ax +ℚ q.ay *ℚ z *ℚ over) *ℚ (q.of_root.cosine -ℚ q.ax +ℚ q.ay *ℚ z *ℚ over)

  -- they take the outer product from its equation, and the inner one too
  of_products : (P : ℚ → ℚ → Type 0) → P (q.ax *ℚ q.of_root.sine -ℚ q.ay *ℚ q.of_root.cosine) (q.ax *ℚ q.of_root.cosine +ℚ q.ay *ℚ q.of_root.sine) → P q.es q.ec
  of_products P h = subst (λ z. P z q.ec) (sym position.preliminaries.es_is) (subst (P _) (sym position.preliminaries.ec_is) h)

  of_square : IsNear (part 60) (q.b *ℚ q.b) (one_ℚ -ℚ (q.ax *ℚ q.ax +ℚ q.ay *ℚ q.ay))
  of_square = subst (λ z. IsNear (part 60) (q.b *ℚ q.b) (one_ℚ -ℚ z)) length_is position.preliminaries.b_is.square

  of_unit_length : Inside (between (pos 0) 1 (pos 1) 1) (q.ax *ℚ q.ax +ℚ q.ay *ℚ q.ay)
  of_unit_length = inside (pos 0) 1 (pos 1) 1 (le_by (q.ax ∷ q.ay ∷ []) (square q.ax ⊕ square q.ay) (search reads depth 90) tt) (le_on (10 ^ 30) (first ∷ second ∷ []) (q.ax ∷ q.ay ∷ []) (of_first, (of_second, tt)) (search reads depth 90) tt)

  of_unit_outer : Inside (between (negsuc 0) 1 (pos 1) 1) (q.ax *ℚ q.of_root.sine -ℚ q.ay *ℚ q.of_root.cosine)
  of_unit_outer =
      subst (Inside (between (negsuc 0) 1 (pos 1) 1)) position.preliminaries.es_is
      (inside (negsuc 0) 1 (pos 1) 1 (le_on (10 ^ 30) (product ∷ []) (q.es ∷ []) (of_outer, tt) (search reads depth 90) tt) (le_on (10 ^ 30) (product ∷ []) (q.es ∷ []) (of_outer, tt) (search reads depth 90) tt))

  of_root_squares : IsNear (part 58) (q.of_root.sine *ℚ q.of_root.sine +ℚ q.of_root.cosine *ℚ q.of_root.cosine) one_ℚ
  of_root_squares = squares_add_up_to_one pi root q.of_root.sine q.of_root.cosine is_pi position.kepler.pair

  numerators : first_numerator *ℚ first_numerator +ℚ second_numerator *ℚ second_numerator ≤ℚ (one_ℚ -ℚ q.ec) *ℚ (one_ℚ -ℚ q.ec) +ℚ ratio (pos 1) 1000
  unfolding first_numerator second_numerator over
  numerators =
      of_products (λ z w. sum_with z ≤ℚ (one_ℚ -ℚ w) *ℚ (one_ℚ -ℚ w) +ℚ ratio (pos 1) 1000)
      (squares_below q.ax q.ay q.of_root.sine q.of_root.cosine q.b over (mul_inverse (one_ℚ +ℚ q.b) position.argument_of_latitude.b_divides) of_over of_root_squares of_square of_unit_length of_unit_outer)

  numerators_low : (one_ℚ -ℚ q.ec) *ℚ (one_ℚ -ℚ q.ec) ≤ℚ first_numerator *ℚ first_numerator +ℚ second_numerator *ℚ second_numerator +ℚ ratio (pos 1) 100000
  unfolding first_numerator second_numerator over
  numerators_low =
      of_products (λ z w. (one_ℚ -ℚ w) *ℚ (one_ℚ -ℚ w) ≤ℚ sum_with z +ℚ ratio (pos 1) 100000)
      (squares_above q.ax q.ay q.of_root.sine q.of_root.cosine q.b over (mul_inverse (one_ℚ +ℚ q.b) position.argument_of_latitude.b_divides) of_over of_root_squares of_square of_unit_length of_unit_outer)

  -- a quotient by the distance, times the axis, times the distance over the axis
  times_near : (z : ℚ) → m.am /ℚ q.rl *ℚ z *ℚ (one_ℚ -ℚ q.ec) ≡ z
  times_near z =
      ring (m.am ∷ inverse q.rl ∷ z ∷ q.ec ∷ []) {y = m.am *ℚ (one_ℚ -ℚ q.ec) *ℚ inverse q.rl *ℚ z} (search reads depth 90) tt
      ∙ ap (λ t. t *ℚ inverse q.rl *ℚ z) (sym position.preliminaries.rl_is)
      ∙ ap (λ t. t *ℚ z) (mul_inverse q.rl position.argument_of_latitude.rl_divides)
      ∙ ring (z ∷ []) (search reads depth 90) tt

  sine_times : q.su *ℚ (one_ℚ -ℚ q.ec) ≡ first_numerator
  unfolding first_numerator over
  sine_times = ap (λ t. t *ℚ (one_ℚ -ℚ q.ec)) position.argument_of_latitude.su_is ∙ times_near first_numerator

  cosine_times : q.cu *ℚ (one_ℚ -ℚ q.ec) ≡ second_numerator
  unfolding second_numerator over
  cosine_times = ap (λ t. t *ℚ (one_ℚ -ℚ q.ec)) position.argument_of_latitude.cu_is ∙ times_near second_numerator

  of_latitudes : Inside latitude q.su × Inside latitude q.cu
  of_latitudes = both_below q.su q.cu (one_ℚ -ℚ q.ec) first_numerator second_numerator near_square sine_times cosine_times numerators

  latitudes_above : ratio (pos 99998) 100000 ≤ℚ q.su *ℚ q.su +ℚ q.cu *ℚ q.cu
  latitudes_above = both_above q.su q.cu (one_ℚ -ℚ q.ec) first_numerator second_numerator near_square sine_times cosine_times numerators_low

  of_inclination : Inside turn k.c
  of_inclination =
      inside (negsuc 100000) 100000 (pos 100001) 100000 (le_by (k.c ∷ []) (gap orbit.cosine.below) (search reads depth 90) tt) (le_by (k.c ∷ []) (gap orbit.cosine.above) (search reads depth 90) tt)

  -- ---- what is added to it
  change_near : IsNear (ratio (pos 26) 10000) q.du zero_ℚ
  change_near =
      subst (λ t. IsNear (ratio (pos 26) 10000) t zero_ℚ)
      (ap (λ t. neg_ℚ (decimal 25 2) *ℚ q.k2 *ℚ (whole 7 *ℚ k.c ^ℚ 2 -ℚ one_ℚ) *ℚ t) (sym position.argument_of_latitude.s2_is) ∙ sym position.short_period.du_is)
      (change_small q.k2 k.c q.su q.cu of_second_factor of_inclination of_latitudes.0 of_latitudes.1)

  of_vector : AreSized 80304810855551 q.ax q.ay
  of_vector =
      rw (position.long_period.ax_is, position.long_period.ay_is)
      (sizes_below m.em q.of_wm.sine q.of_wm.cosine (q.v *ℚ k.aycof) of_eccentricity of_tilt (pair_sized pi m.wm q.of_wm.sine q.of_wm.cosine is_pi position.long_period.wm_pair))

  in_box : IsInBox q taken_position
  in_box = record {
    vector = of_vector;
    inner = of_small_inner;
    su = of_latitudes.0;
    cu = of_latitudes.1;
    change = sine_small pi q.du q.of_du.sine q.of_du.cosine is_pi position.corrected_latitude.du_pair change_near;
  }

  corrected : ratio (pos 1034) 1000 ≤ℚ q.mrt
  corrected =
      rw (position.short_period.mrt_is, position.argument_of_latitude.c2_is)
      (corrected_above q.rl q.k1 q.k2 q.b k.con41 k.c q.su of_distance of_factor of_second_factor of_square_root (inside (negsuc 1000) 1000 (pos 2001) 1000 orbit.con41_low orbit.con41_high) of_inclination of_latitudes.0)

  corrected_most : q.mrt ≤ℚ ratio (pos 24) 10
  corrected_most =
      rw (position.short_period.mrt_is, position.argument_of_latitude.c2_is)
      (corrected_below q.rl q.k1 q.k2 q.b k.con41 k.c q.su of_small_distance of_factor of_second_factor of_square_root (inside (negsuc 1000) 1000 (pos 2001) 1000 orbit.con41_low orbit.con41_high) of_inclination of_latitudes.0)

  -- ---- the position
  far_away : (ratio (pos 1069) 1000 ≤ℚ r.x *ℚ r.x +ℚ r.y *ℚ r.y +ℚ r.z *ℚ r.z) × (r.x *ℚ r.x +ℚ r.y *ℚ r.y +ℚ r.z *ℚ r.z ≤ℚ ratio (pos 121) 10)
  far_away =
      length_within q.mrt q.of_xnode.sine q.of_xnode.cosine q.of_xinc.sine q.of_xinc.cosine q.su q.cu q.of_du.sine q.of_du.cosine q.sw q.cw r.x r.y r.z corrected corrected_most latitudes_above of_latitudes.0 of_latitudes.1
      (squares_add_up_to_one pi q.xnode q.of_xnode.sine q.of_xnode.cosine is_pi position.vector.xnode_pair) (squares_add_up_to_one pi q.xinc q.of_xinc.sine q.of_xinc.cosine is_pi position.vector.xinc_pair)
      (squares_add_up_to_one pi q.du q.of_du.sine q.of_du.cosine is_pi position.corrected_latitude.du_pair)
      (turn_inside (sine_pairs_are_bounded pi q.xinc q.of_xinc.sine q.of_xinc.cosine is_pi position.vector.xinc_pair).1) in_box.change
      (turn_inside (sine_pairs_are_bounded pi q.du q.of_du.sine q.of_du.cosine is_pi position.corrected_latitude.du_pair).1)
      position.corrected_latitude.sw_is position.corrected_latitude.cw_is position.vector.x_is position.vector.y_is position.vector.z_is

-- the distance is at least 1.034 Earth radii
pub distance_above : (k : ConstRecord) (m : MeanRecord) (q : PeriodicRecord) (factor pi root : ℚ) (r : Vector) → IsPi pi → IsNearOrbit k m factor → IsPositionUnguarded k m q pi root r → ratio (pos 1034) 1000 ≤ℚ q.mrt
distance_above k m q factor pi root r is_pi orbit position = corrected k m q factor pi root r is_pi orbit position

-- the quantities lie in the box
pub position_in_box : (k : ConstRecord) (m : MeanRecord) (q : PeriodicRecord) (factor pi root : ℚ) (r : Vector) → IsPi pi → IsNearOrbit k m factor → IsPositionUnguarded k m q pi root r → IsInBox q taken_position
position_in_box k m q factor pi root r is_pi orbit position = in_box k m q factor pi root r is_pi orbit position

-- the position is at least 1.033 Earth radii from the Earth's centre, and at most 3.48
pub position_within : (k : ConstRecord) (m : MeanRecord) (q : PeriodicRecord) (factor pi root : ℚ) (r : Vector) → IsPi pi → IsNearOrbit k m factor → IsPositionUnguarded k m q pi root r →
    (ratio (pos 1069) 1000 ≤ℚ r.x *ℚ r.x +ℚ r.y *ℚ r.y +ℚ r.z *ℚ r.z) × (r.x *ℚ r.x +ℚ r.y *ℚ r.y +ℚ r.z *ℚ r.z ≤ℚ ratio (pos 121) 10)
position_within k m q factor pi root r is_pi orbit position = far_away k m q factor pi root r is_pi orbit position
