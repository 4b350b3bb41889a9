-- The shadow's numbers of lit solutions: how large they are, and what bounds around 0 say of them.
use Rattle.std.proofs.Common.{◌≡◌, [], ◌∷◌, arith, sym, subst, ap, ◌∙◌, ◌^◌, ◌*◌, ◌+◌, ◌-◌, ◌<◌, ◌≤◌, ℕ, ℤ, pos, negsuc, ◌≤ℤ◌, ◌<ℤ◌, ◌⊎◌, inl, inr, ⊎_elim}
use Rattle.std.proofs.lemmas.Int.{ints}
use Rattle.exact.specs.Rational.{ℚ, ◌+ℚ◌, ◌-ℚ◌, ◌*ℚ◌, ◌^ℚ◌, of_int, one_ℚ, ratio, zero_ℚ, at_least_0, ◌≤ℚ◌, ◌<ℚ◌}
use Rattle.exact.proofs.Bounds.{square}
use Rattle.exact.proofs.Integers.{of_int_is, of_int_le, le_of_int}
use Rattle.exact.specs.Interval.{Inside, Interval, between}
use Rattle.exact.proofs.Intervals.{inside}
use Rattle.exact.proofs.Order.{◌⊕◌, ◌⊗◌, gap, known, le_by, le_trans, same_sign}
use Rattle.exact.proofs.Strict.{not_both, positive_known}
use Rattle.exact.proofs.Tests.{by_test}
use Rattle.exact.proofs.RationalRing.{ring, reads}
use Rattle.fixed_iv.specs.Ends.{in_units}
use Rattle.earth_frame.specs.Spread.{IsSpreadWithin}
use Rattle.fixed_iv.specs.Extent.{Extent, width_of}
use Rattle.fixed_iv.specs.Holds.{Holds, IsBounded}
use Rattle.fixed_iv.specs.Place.{Place, on_line}
use Rattle.fixed_iv.specs.declared.enc.Enc.{Ghosts}
use Rattle.fixed_iv.specs.declared.iv.Iv.{Iv}
use Rattle.fixed_iv.proofs.OuterLemmas.{width_is}
use Rattle.sgp4_model.specs.Angle.{IsPi, IsNear, part}
use Rattle.sgp4_model.specs.EachSolution.{OfEach}
use Rattle.sgp4_model.specs.Light.{GrazesShadow, ShadowRecord}
use Rattle.sgp4_model.specs.LitSolution.{EachLitSolution, IsLitSolution}
use Rattle.sgp4_model.specs.PositionAt.{IsPositionAt}
use Rattle.sgp4_model.specs.Records.{SetRecord}
use Rattle.sgp4_model.specs.Sun.{IsSun}
use Rattle.sgp4_model.specs.Time.{IsWithin, Throughout, instant_of_place}
use Rattle.sgp4_model.specs.Vector.{Vector}
use Rattle.sgp4_model.proofs.Pythagoras.{squares_add_up_to_one}
use Rattle.sun_shade.specs.Judged.{IsUndecided}
use Rattle.sun_shade.specs.declared.vector.Shade.{Shade}
use Rattle.orbit_sight.specs.Cell.{time_of_place}
use Rattle.station_view.specs.Spot.{IsNoWider}
use Rattle.orbit_sight.specs.Lit.{AreNarrow, EachPlaceHasALit, HoldShadow, IsLeastShade, bounds_of, square_of}
use Rattle.orbit_sight.specs.Over.{CellRecord, cell_of, instant_on, place_on}
use Rattle.orbit_sight.proofs.CellLemmas.{line_of_time, on_ticks}

-- ---- a lit solution has a position
pub position_of_light : {set : SetRecord} {at : ℚ} {v : ShadowRecord} → (p : IsLitSolution set at v) → IsPositionAt set at p.position
position_of_light p = record {
  pi = p.pi;
  pi_is = p.is_pi;
  constants = p.constants;
  constants_are = p.are_constants;
  mean = p.mean;
  mean_is = p.is_mean;
  root = p.root;
  position_is = p.is_position;
}

-- its square, from the shadow's numbers
pub far_light : (l p : ℚ) → ratio (pos 1069) 1000 ≤ℚ l → ratio (pos 1069) 1000 ≤ℚ l -ℚ p ^ℚ 2 -ℚ one_ℚ +ℚ p ^ℚ 2 +ℚ one_ℚ
far_light l p h = le_by (l ∷ p ∷ []) (gap h) (search reads depth 60) tt

-- ---- the direction of the Sun is one, nearly
pub sun_square : {pi at : ℚ} {s : Vector} → IsPi pi → IsSun pi at s → s.x *ℚ s.x +ℚ s.y *ℚ s.y +ℚ s.z *ℚ s.z ≤ℚ ratio (pos 1005) 1000
sun_square {pi} {at} {s} is_pi sun =
    rw (sun.x, sun.y, sun.z) (of_pairs sun.longitude.sine sun.longitude.cosine sun.tilt.sine sun.tilt.cosine
    (squares_add_up_to_one pi _ sun.longitude.sine sun.longitude.cosine is_pi sun.of_longitude)
    (squares_add_up_to_one pi _ sun.tilt.sine sun.tilt.cosine is_pi sun.of_tilt))
  where
    of_pairs : (a b c d : ℚ) → IsNear (part 58) (a *ℚ a +ℚ b *ℚ b) one_ℚ → IsNear (part 58) (c *ℚ c +ℚ d *ℚ d) one_ℚ →
        b *ℚ b +ℚ d *ℚ a *ℚ (d *ℚ a) +ℚ c *ℚ a *ℚ (c *ℚ a) ≤ℚ ratio (pos 1005) 1000
    of_pairs a b c d first second =
        le_by (a ∷ b ∷ c ∷ d ∷ [])
        (square a ⊗ gap second.above ⊕ known (2 ^ 58 + 1) (2 ^ 58) ⊗ gap first.above ⊕ known 1 (2 ^ 58) ⊗ square b
        ⊕ known (1005 * 2 ^ 116 - 1000 * ((2 ^ 58 + 1) * (2 ^ 58 + 1))) (1000 * 2 ^ 116)) (search reads depth 120) tt

-- ---- the depth of a position that is not far
depth_square : (a b c x y z : ℚ) → a *ℚ a +ℚ b *ℚ b +ℚ c *ℚ c ≤ℚ ratio (pos 121) 10 → x *ℚ x +ℚ y *ℚ y +ℚ z *ℚ z ≤ℚ ratio (pos 1005) 1000 →
    (a *ℚ x +ℚ b *ℚ y +ℚ c *ℚ z) *ℚ (a *ℚ x +ℚ b *ℚ y +ℚ c *ℚ z) ≤ℚ ratio (pos 349) 100 *ℚ ratio (pos 349) 100
depth_square a b c x y z near one =
    le_by (a ∷ b ∷ c ∷ x ∷ y ∷ z ∷ [])
    (known 1005 1000 ⊗ gap near ⊕ (square a ⊕ square b ⊕ square c) ⊗ gap one
    ⊕ square (a *ℚ y -ℚ b *ℚ x) ⊕ square (a *ℚ z -ℚ c *ℚ x) ⊕ square (b *ℚ z -ℚ c *ℚ y) ⊕ known 196 10000) (search reads depth 200) tt

abbrev pub depth_range : Interval
depth_range = between (negsuc 348) 100 (pos 349) 100

pub depth_inside : (a b c x y z : ℚ) → a *ℚ a +ℚ b *ℚ b +ℚ c *ℚ c ≤ℚ ratio (pos 121) 10 → x *ℚ x +ℚ y *ℚ y +ℚ z *ℚ z ≤ℚ ratio (pos 1005) 1000 →
    Inside depth_range (a *ℚ x +ℚ b *ℚ y +ℚ c *ℚ z)
depth_inside a b c x y z near one = of_square (a *ℚ x +ℚ b *ℚ y +ℚ c *ℚ z) (depth_square a b c x y z near one)
  where
    of_square : (p : ℚ) → p *ℚ p ≤ℚ ratio (pos 349) 100 *ℚ ratio (pos 349) 100 → Inside depth_range p
    of_square p h =
        inside (negsuc 348) 100 (pos 349) 100
        (le_by (p ∷ []) (known 100 698 ⊗ (gap h ⊕ square (p +ℚ ratio (pos 349) 100))) (search reads depth 90) tt)
        (le_by (p ∷ []) (known 100 698 ⊗ (gap h ⊕ square (p -ℚ ratio (pos 349) 100))) (search reads depth 90) tt)

-- ---- bounds around 0
-- of the height, at most 2^35 units wide
near_height : {v : Iv} {x : ℚ} → IsBounded v → width_of v ≤ 34359738368 → v.lo ≤ℤ pos 0 → pos 0 ≤ℤ v.hi → Holds v x →
    IsNear (ratio (pos 1) 1000) x zero_ℚ × IsNear (part 13) x zero_ℚ
near_height {v} {x} b w l u h =
    let most : of_int v.hi ≤ℚ ratio (pos 34359738368) 1 = rw (← of_int_is (pos 34359738368)) (of_int_le (omega (arith, ints, w, l, width_is v))) in
    let least : ratio (negsuc 34359738367) 1 ≤ℚ of_int v.lo = rw (← of_int_is (negsuc 34359738367)) (of_int_le (omega (arith, ints, w, u, width_is v))) in (
      record {
        above = le_by (of_int v.hi ∷ x ∷ []) (known 1 281474976710656 ⊗ (gap most ⊕ gap (h.high b.high)) ⊕ known 7192 8192000) (search reads depth 90) tt;
        below = le_by (of_int v.lo ∷ x ∷ []) (known 1 281474976710656 ⊗ (gap least ⊕ gap (h.low b.low)) ⊕ known 7192 8192000) (search reads depth 90) tt;
      },
      record {
        above = le_by (of_int v.hi ∷ x ∷ []) (known 1 281474976710656 ⊗ (gap most ⊕ gap (h.high b.high))) (search reads depth 90) tt;
        below = le_by (of_int v.lo ∷ x ∷ []) (known 1 281474976710656 ⊗ (gap least ⊕ gap (h.low b.low))) (search reads depth 90) tt;
      },
    )

-- of the depth, at most 2^31 units wide: then the height of what is far out is above 0
height_reaches_0 : {p g : Iv} {v : ShadowRecord} → IsBounded p → width_of p ≤ 2147483648 → p.lo ≤ℤ pos 0 → pos 0 ≤ℤ p.hi → IsBounded g → Holds p v.p → Holds g v.g →
    ratio (pos 1069) 1000 ≤ℚ square_of v → pos 0 ≤ℤ g.hi
height_reaches_0 {p} {g} {v} b w l u bg hp hg far =
    let most : of_int p.hi ≤ℚ ratio (pos 2147483648) 1 = rw (← of_int_is (pos 2147483648)) (of_int_le (omega (arith, ints, w, l, width_is p))) in
    let least : ratio (negsuc 2147483647) 1 ≤ℚ of_int p.lo = rw (← of_int_is (negsuc 2147483647)) (of_int_le (omega (arith, ints, w, u, width_is p))) in
    let high : v.p ≤ℚ ratio (pos 1) 10 = le_by (of_int p.hi ∷ v.p ∷ []) (known 1 281474976710656 ⊗ (gap most ⊕ gap (hp.high b.high)) ⊕ known 131062 1310720) (search reads depth 90) tt in
    let low : ratio (negsuc 0) 10 ≤ℚ v.p = le_by (of_int p.lo ∷ v.p ∷ []) (known 1 281474976710656 ⊗ (gap least ⊕ gap (hp.low b.low)) ⊕ known 131062 1310720) (search reads depth 90) tt in
    let above : of_int (pos 0) ≤ℚ in_units v.g = rw (of_int_is (pos 0)) (le_by (v.p ∷ v.g ∷ []) (known 281474976710656 1 ⊗ (gap far ⊕ gap high ⊗ gap low ⊕ known 59 1000)) (search reads depth 90) tt) in
    le_of_int (le_trans above (hg.high bg.high))

-- such a depth, where it is not above 0 for certain, is small
low_depth : {p : Iv} (x : ℚ) → IsBounded p → width_of p ≤ 2147483648 → p.lo ≤ℤ pos 0 → Holds p x → x ≤ℚ ratio (pos 1) 100
low_depth {p} x b w l h =
    let most : of_int p.hi ≤ℚ ratio (pos 2147483648) 1 = rw (← of_int_is (pos 2147483648)) (of_int_le (omega (arith, ints, w, l, width_is p))) in
    le_by (of_int p.hi ∷ x ∷ []) (known 1 281474976710656 ⊗ (gap most ⊕ gap (h.high b.high)) ⊕ known 130972 13107200) (search reads depth 90) tt

-- what is far out and near the cylinder's edge is then behind the centre
behind_the_centre : (v : ShadowRecord) → ratio (pos 1069) 1000 ≤ℚ square_of v → IsNear (ratio (pos 1) 1000) v.g zero_ℚ →
    v.p ≤ℚ ratio (pos 1) 100 → v.p <ℚ zero_ℚ
behind_the_centre v far near small = record { lt = by_test (at_least_0 (v.p -ℚ zero_ℚ)) (λ t. absurd (apart (record { le = t }))) (λ t. t) }
  where
    apart : zero_ℚ ≤ℚ v.p → ⊥
    apart h =
        not_both (positive_known 678 10000)
        (same_sign (ring (v.p ∷ v.g ∷ []) (search reads depth 120) tt)
        (gap far ⊕ gap near.above ⊕ gap small ⊗ gap h ⊕ known 1 100 ⊗ gap small))

-- so numbers whose bounds are narrow and decide nothing graze the shadow
pub undecided_grazes : {shade : Shade Iv} {v : ShadowRecord} → AreNarrow shade → IsUndecided shade → HoldShadow shade v → ratio (pos 1069) 1000 ≤ℚ square_of v → GrazesShadow v
undecided_grazes {shade} {v} narrow open_ h far =
    let near = near_height narrow.g.bounded (omega (arith, narrow.g.width)) open_.g_reaches_0 (⊎_elim open_.not_both_below around (sign shade.p.hi)) h.g in
    let small = low_depth v.p narrow.p.bounded (omega (arith, narrow.p.width)) open_.p_reaches_0 h.p in
    record { behind = behind_the_centre v far near.0 small; given = near.0; sharp = near.1 }
  where
    sign : (z : ℤ) → (z <ℤ pos 0) ⊎ (pos 0 ≤ℤ z)
    sign (pos n) = inr (omega (arith, ints))
    sign (negsuc n) = inl (omega (arith, ints))

    around : pos 0 ≤ℤ shade.p.hi → pos 0 ≤ℤ shade.g.hi
    around u = height_reaches_0 {v = v} narrow.p.bounded (omega (arith, narrow.p.width)) open_.p_reaches_0 u narrow.g.bounded h.p h.g far

-- ---- a place of a window is one of the cell around it
pub record IsOnCell (cell : CellRecord) (place : ℚ) : Type 0 where
  pub at : Place
  pub is : place_on cell at ≡ place

pub on_cell : (start : ℤ) (m n : ℕ) (place : ℚ) → m < n → IsWithin m n place → IsOnCell (cell_of start m n) place
on_cell start m n place h w =
    let on = on_ticks m n place h w in
    record { at = on.at; is = unscaled _ place (sym (line_of_time on.at (of_int (pos m)) (of_int (pos n))) ∙ on.is) }
  where
    unscaled : (x y : ℚ) → time_of_place x ≡ time_of_place y → x ≡ y
    unscaled x y e =
        ring (x ∷ []) {y = time_of_place x *ℚ ratio (pos 9830400000) 1} (search reads depth 60) tt
        ∙ ap (λ t. t *ℚ ratio (pos 9830400000) 1) e
        ∙ ring (y ∷ []) (search reads depth 60) tt

-- what holds of each lit solution on the cell holds of each at the place
pub each_at : {set : SetRecord} {fact : ShadowRecord → Type 0} (start : ℤ) (m n : ℕ) (place : ℚ) (on : IsOnCell (cell_of start m n) place) → EachPlaceHasALit set (cell_of start m n) →
    ((v : ShadowRecord) → IsLitSolution set (instant_on (cell_of start m n) on.at) v → fact v) → EachLitSolution set start fact place
each_at {set} {fact} start m n place on exists each = subst (λ z. OfEach (IsLitSolution set (instant_of_place start z)) fact) on.is (record { some = exists on.at; each = each })

-- what holds of each on a part of the cell holds throughout it
pub throughout_part : {set : SetRecord} {fact : ShadowRecord → Type 0} (start : ℤ) (m n a b : ℕ) → m < n → ((q : ℚ) → IsWithin a b q → IsWithin m n q) → EachPlaceHasALit set (cell_of start m n) →
    ((h : Place) (v : ShadowRecord) (q : ℚ) → IsWithin a b q → on_line h (of_int (pos m)) (of_int (pos n)) ≡ q → IsLitSolution set (instant_on (cell_of start m n) h) v → fact v) → Throughout a b (EachLitSolution set start fact)
throughout_part start m n a b longer inside exists each q w =
    let on = on_cell start m n q longer (inside q w) in
    each_at start m n q on exists (λ v p. each on.at v q w on.is p)

-- ---- bounds no wider than a spread
pub no_wider : {n : ℕ} {e : Extent} → IsSpreadWithin n e → IsNoWider n e.ends
no_wider {n} {e} h = record { bounded = h.measured.bounded; width = omega (arith, h.measured.width, h.spread) }

pub narrow_bounds : {A : Type 0} {E : Ghosts A} {shade : Shade A} → IsLeastShade E shade → AreNarrow (bounds_of E shade)
narrow_bounds h = record { p = no_wider h.p; g = no_wider h.g }
