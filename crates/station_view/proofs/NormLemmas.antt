-- A station's place is at most 1.00142 Earth radii from the centre.
use Rattle.std.proofs.Common.{◌≡◌, [], ◌∷◌, ◌∙◌, pos, negsuc, neg_ℤ, ap, subst}
use Rattle.exact.specs.Rational.{ℚ, ◌+ℚ◌, ◌*ℚ◌, inverse, one_ℚ, ratio, zero_ℚ, ◌≤ℚ◌}
use Rattle.exact.proofs.RationalRing.{ring, reads}
use Rattle.exact.proofs.Order.{NonNeg, gap, known, le_by, le_trans, same_sign, ◌⊕◌, ◌⊗◌}
use Rattle.exact.proofs.Bounds.{square}
use Rattle.exact.proofs.Strict.{Positive, mul_inverse, positive_by, positive_inverse, positive_known, positive_weak, not_both, not_zero, quotient_le}
use Rattle.exact.proofs.Integers.{of_int_is}
use Rattle.elements.specs.Elements.{IsFromTo}
use Rattle.sgp4_model.specs.Angle.{IsNear, IsPi, Pair, part}
use Rattle.sgp4_model.specs.Degrees.{IsPairOfDegrees}
use Rattle.sgp4_model.specs.Root.{IsSqrt}
use Rattle.sgp4_model.specs.StationPlace.{IsStationPlace, in_km}
use Rattle.sgp4_model.specs.Vector.{Vector, inner_product}
use Rattle.sgp4_model.specs.Wgs72.{earth_radius_km}
use Rattle.sgp4_model.specs.Wgs84.{axes_squared, equator_km}
use Rattle.sgp4_model.proofs.Powers.{le_of_squares}
use Rattle.sgp4_model.proofs.Pythagoras.{squares_add_up_to_one}
use Rattle.sgp4_model.proofs.RootLipschitz.{root_above}
use Rattle.station_view.proofs.PlaceLemmas.{axes_are, under_root_is, under_root_least, under_root_most}

-- one over an Earth radius
radius_over : inverse earth_radius_km ≡ ratio (pos 1000) 6378135
radius_over = by (inverse earth_radius_km) (mul_inverse earth_radius_km (not_0))
  where
    not_0 : ¬ (earth_radius_km ≡ zero_ℚ)
    not_0 = not_zero (positive_known 6378134 1000)

    by : (i : ℚ) → earth_radius_km *ℚ i ≡ one_ℚ → i ≡ ratio (pos 1000) 6378135
    by i e = ring (i ∷ []) (search reads depth 90) tt ∙ ap (λ t. t *ℚ ratio (pos 1000) 6378135) e ∙ ring [] (search reads depth 90) tt

-- ---- the square in parts
squared : (a f c h x y u v k : ℚ) →
    (a *ℚ c +ℚ h) *ℚ x *ℚ u *ℚ k *ℚ ((a *ℚ c +ℚ h) *ℚ x *ℚ u *ℚ k) +ℚ (a *ℚ c +ℚ h) *ℚ x *ℚ v *ℚ k *ℚ ((a *ℚ c +ℚ h) *ℚ x *ℚ v *ℚ k)
    +ℚ (a *ℚ f *ℚ c +ℚ h) *ℚ y *ℚ k *ℚ ((a *ℚ f *ℚ c +ℚ h) *ℚ y *ℚ k)
    ≡ ((a *ℚ c +ℚ h) *ℚ x *ℚ ((a *ℚ c +ℚ h) *ℚ x) *ℚ (v *ℚ v +ℚ u *ℚ u) +ℚ (a *ℚ f *ℚ c +ℚ h) *ℚ y *ℚ ((a *ℚ f *ℚ c +ℚ h) *ℚ y)) *ℚ (k *ℚ k)
squared a f c h x y u v k = ring (a ∷ f ∷ c ∷ h ∷ x ∷ y ∷ u ∷ v ∷ k ∷ []) (search reads depth 90) tt

widened : (m n w : ℚ) → w ≤ℚ one_ℚ +ℚ part 58 → m *ℚ m *ℚ w +ℚ n *ℚ n ≤ℚ (m *ℚ m +ℚ n *ℚ n) *ℚ (one_ℚ +ℚ part 58)
widened m n w h = le_by (m ∷ n ∷ w ∷ []) (square m ⊗ gap h ⊕ known 1 288230376151711744 ⊗ square n) (search reads depth 90) tt

in_parts : (a f c h x y : ℚ) →
    (a *ℚ c +ℚ h) *ℚ x *ℚ ((a *ℚ c +ℚ h) *ℚ x) +ℚ (a *ℚ f *ℚ c +ℚ h) *ℚ y *ℚ ((a *ℚ f *ℚ c +ℚ h) *ℚ y)
    ≡ a *ℚ a *ℚ (c *ℚ c *ℚ (x *ℚ x +ℚ f *ℚ f *ℚ (y *ℚ y))) +ℚ ratio (pos 2) 1 *ℚ a *ℚ h *ℚ (c *ℚ (x *ℚ x +ℚ f *ℚ (y *ℚ y))) +ℚ h *ℚ h *ℚ (y *ℚ y +ℚ x *ℚ x)
in_parts a f c h x y = ring (a ∷ f ∷ c ∷ h ∷ x ∷ y ∷ []) (search reads depth 90) tt

parts_most : (p q h w : ℚ) → p ≤ℚ one_ℚ +ℚ part 58 → NonNeg q → q ≤ℚ ratio (pos 100051) 100000 → ratio (negsuc 0) 1 ≤ℚ h → h ≤ℚ ratio (pos 9) 1 → NonNeg w → w ≤ℚ one_ℚ +ℚ part 58 →
    ratio (pos 6378137) 1000 *ℚ ratio (pos 6378137) 1000 *ℚ p +ℚ ratio (pos 2) 1 *ℚ ratio (pos 6378137) 1000 *ℚ h *ℚ q +ℚ h *ℚ h *ℚ w ≤ℚ ratio (pos 40795580) 1
parts_most p q h w of_p of_q most_q least most of_w most_w =
    le_by (p ∷ q ∷ h ∷ w ∷ [])
    (known 40680631590769 1000000 ⊗ gap of_p ⊕ known 12756274 1000 ⊗ (of_q ⊗ gap most) ⊕ known 114806466 1000 ⊗ gap most_q
    ⊕ of_w ⊗ (gap most ⊗ (gap least ⊕ known 8 1)) ⊕ known 81 1 ⊗ gap most_w ⊕ known 17235696156933487648809399 7205759403792793600000000)
    (search reads depth 90) tt

-- ---- the factor one over the root
module _ (c r x y f : ℚ) (root : r *ℚ c ≡ one_ℚ) (near : IsNear (part 60) (r *ℚ r) (x *ℚ x +ℚ f *ℚ (y *ℚ y))) (of_c : NonNeg c) (most_c : c ≤ℚ ratio (pos 102) 100) (of_f : NonNeg f) (most_f : f ≤ℚ one_ℚ) where
  -- C^2 (cos^2 + F^2 sin^2) is at most C^2 (cos^2 + F sin^2), which is 1
  factor_most : c *ℚ c *ℚ (x *ℚ x +ℚ f *ℚ f *ℚ (y *ℚ y)) ≤ℚ one_ℚ +ℚ part 58
  factor_most =
      le_trans
      (subst (λ t. c *ℚ c *ℚ (x *ℚ x +ℚ f *ℚ f *ℚ (y *ℚ y)) ≤ℚ t *ℚ t +ℚ part 60 *ℚ (c *ℚ c)) root
      (le_by (c ∷ r ∷ x ∷ y ∷ f ∷ []) (of_c ⊗ of_c ⊗ (gap near.below ⊕ of_f ⊗ gap most_f ⊗ square y)) (search reads depth 90) tt))
      (le_by (c ∷ []) (known 1 1152921504606846976 ⊗ (gap most_c ⊗ of_c ⊕ known 102 100 ⊗ gap most_c) ⊕ known 7399 2882303761517117440000) (search reads depth 90) tt)

  product_most : r ≤ℚ ratio (pos 10005) 10000 → c *ℚ (x *ℚ x +ℚ f *ℚ (y *ℚ y)) ≤ℚ ratio (pos 100051) 100000
  product_most most_r =
      le_trans
      (subst (λ t. c *ℚ (x *ℚ x +ℚ f *ℚ (y *ℚ y)) ≤ℚ r *ℚ t +ℚ part 60 *ℚ c) root
      (le_by (c ∷ r ∷ x ∷ y ∷ f ∷ []) (of_c ⊗ gap near.below) (search reads depth 90) tt))
      (le_by (c ∷ r ∷ []) (gap most_r ⊕ known 1 1152921504606846976 ⊗ gap most_c ⊕ known 72057594037921561 7205759403792793600000) (search reads depth 90) tt)

-- ---- the place
by_equations : (x y z u v w m : ℚ) → x ≡ u → y ≡ v → z ≡ w → u *ℚ u +ℚ v *ℚ v +ℚ w *ℚ w ≤ℚ m → x *ℚ x +ℚ y *ℚ y +ℚ z *ℚ z ≤ℚ m
by_equations x y z u v w m e f g h = rw (e, f, g) h

scaled : (m : ℚ) → m ≤ℚ ratio (pos 40795580) 1 *ℚ (one_ℚ +ℚ part 58) → m *ℚ (ratio (pos 1000) 6378135 *ℚ ratio (pos 1000) 6378135) ≤ℚ ratio (pos 1002842) 1000000
scaled m h = le_by (m ∷ []) (known 1000000 40680606078225 ⊗ gap h ⊕ known 450613782315489597195816713 28626431621109381976817664000000) (search reads depth 90) tt

root_most : {u r : ℚ} → u ≤ℚ ratio (pos 1001) 1000 → IsSqrt u r → r ≤ℚ ratio (pos 10005) 10000
root_most {u} {r} h is = le_of_squares (known 10005 10000) (le_by (r ∷ u ∷ []) (gap is.square.above ⊕ gap h ⊕ known 4503599627354871 18014398509481984000000) (search reads depth 90) tt)

root_least : {u r : ℚ} → ratio (pos 993) 1000 ≤ℚ u → IsSqrt u r → ratio (pos 99) 100 ≤ℚ r
root_least {u} h is = root_above (le_by (u ∷ []) (gap h ⊕ known 9295429630892703119 720575940379279360000) (search reads depth 90) tt) is

one_over : (r i : ℚ) → r *ℚ i ≡ one_ℚ → r *ℚ (one_ℚ *ℚ i) ≡ one_ℚ
one_over r i e = ring (r ∷ i ∷ []) (search reads depth 90) tt ∙ e

above_0 : {r : ℚ} → ratio (pos 99) 100 ≤ℚ r → Positive r
above_0 {r} h = positive_by (λ p. not_both (positive_known 0 1) (same_sign (ring (r ∷ []) (search reads depth 90) tt) (known 100 99 ⊗ (p ⊕ gap h))))

of_axes : NonNeg axes_squared
of_axes = subst NonNeg axes_are (known 88361856960383362414969 88957371407509362414969)

most_axes : axes_squared ≤ℚ one_ℚ
most_axes = le_by [] (known 595514447126000000000 88957371407509362414969) (search reads depth 90) tt

one_and_more : (m w : ℚ) → m ≤ℚ ratio (pos 40795580) 1 → w ≤ℚ m *ℚ (one_ℚ +ℚ part 58) → w ≤ℚ ratio (pos 40795580) 1 *ℚ (one_ℚ +ℚ part 58)
one_and_more m w h k = le_by (m ∷ w ∷ []) (gap k ⊕ known 288230376151711745 288230376151711744 ⊗ gap h) (search reads depth 90) tt

pair_square : {p : ℚ} (d : ℚ) (pair : Pair) → IsPi p → IsPairOfDegrees p d pair → pair.sine *ℚ pair.sine +ℚ pair.cosine *ℚ pair.cosine ≤ℚ one_ℚ +ℚ part 58
pair_square d pair pi is = (squares_add_up_to_one _ _ _ _ pi is).above

-- the square of a place is at most 1.002842
pub place_near : {p : ℚ} (d e height : ℚ) (lat lon : Pair) (place : Vector) → IsPi p → IsPairOfDegrees p d lat → IsPairOfDegrees p e lon →
    ratio (negsuc 0) 1 ≤ℚ height → height ≤ℚ ratio (pos 9) 1 → IsStationPlace lat lon height place → inner_product place place ≤ℚ ratio (pos 1002842) 1000000
place_near d e height lat lon place pi is_lat is_lon least most is =
    let root = subst (λ t. IsSqrt t is.root) (under_root_is lat.sine lat.cosine) is.root_is in
    let long = root_least (under_root_least d lat pi is_lat) root in
    let short = root_most (under_root_most d lat pi is_lat) root in
    let times : is.root *ℚ is.c ≡ one_ℚ = rw is.c_is (one_over is.root (inverse is.root) (mul_inverse is.root is.root_divides)) in
    let of_c : NonNeg is.c = rw is.c_is (known 1 1 ⊗ positive_weak (positive_inverse (above_0 long))) in
    let most_c : is.c ≤ℚ ratio (pos 102) 100 = rw is.c_is (quotient_le (above_0 long) (le_by (is.root ∷ []) (known 102 100 ⊗ gap long ⊕ known 98 10000) (search reads depth 90) tt)) in
    let p = factor_most is.c is.root lat.cosine lat.sine axes_squared times root.square of_c most_c of_axes most_axes in
    let q = product_most is.c is.root lat.cosine lat.sine axes_squared times root.square of_c most_c of_axes most_axes short in
    let of_q = of_c ⊗ (square lat.cosine ⊕ of_axes ⊗ square lat.sine) in
    let whole = parts_most _ _ height _ p of_q q least most (square lat.sine ⊕ square lat.cosine) (pair_square d lat pi is_lat) in
    by_equations place.x place.y place.z _ _ _ _
    (is.x ∙ ap (λ t. (equator_km *ℚ is.c +ℚ height) *ℚ lat.cosine *ℚ lon.cosine *ℚ t) radius_over)
    (is.y ∙ ap (λ t. (equator_km *ℚ is.c +ℚ height) *ℚ lat.cosine *ℚ lon.sine *ℚ t) radius_over)
    (is.z ∙ ap (λ t. (equator_km *ℚ axes_squared *ℚ is.c +ℚ height) *ℚ lat.sine *ℚ t) radius_over)
    (rw (squared equator_km axes_squared is.c height lat.cosine lat.sine lon.cosine lon.sine (ratio (pos 1000) 6378135))
    (scaled _ (one_and_more _ _ (rw (in_parts equator_km axes_squared is.c height lat.cosine lat.sine) whole) (widened _ _ _ (pair_square e lon pi is_lon)))))

-- a height in its range, in kilometres
pub height_near : {x : ℚ} → IsFromTo (neg_ℤ (pos 500)) (pos 9000) x → (ratio (negsuc 0) 1 ≤ℚ in_km x) × (in_km x ≤ℚ ratio (pos 9) 1)
height_near {x} range =
    let l = rw (of_int_is (neg_ℤ (pos 500))) at range.least in
    let h = rw (of_int_is (pos 9000)) at range.most in (
      le_by (x ∷ []) (known 1 1000 ⊗ gap l ⊕ known 1 2) (search reads depth 90) tt,
      le_by (x ∷ []) (known 1 1000 ⊗ gap h) (search reads depth 90) tt,
    )
