-- The guards are certified where numerals fit: bounds as wide as they say meet the guards.
use Rattle.std.proofs.Common.{◌≡◌, arith, sym, subst, inl, inr, Bool, ◌≤◌, ◌+◌, ◌^◌, ℕ, ℤ, pos, negsuc, suc, T, [], ◌∷◌}
use Rattle.std.proofs.lemmas.Int.{ints}
use Rattle.exact.specs.Rational.{ℚ, ratio, zero_ℚ, ◌≤ℚ◌, ◌<ℚ◌}
use Rattle.exact.proofs.Integers.{ratio_is_product}
use Rattle.exact.specs.Interval.{Inside, coef_le, Coef, number_of}
use Rattle.exact.proofs.Intervals.{coef_le_holds}
use Rattle.exact.proofs.Order.{gap, le_by, le_trans}
use Rattle.exact.proofs.RationalRing.{reads}
use Rattle.exact.proofs.Strict.{lt_by, positive_known, positive_sum}
use Rattle.fixed_iv.specs.Extent.{Extent, size}
use Rattle.fixed_iv.specs.Holds.{Holds}
use Rattle.fixed_iv.specs.Place.{Place}
use Rattle.fixed_iv.specs.Reach.{IsHeld, IsKnown, Reach, outer, outer_size}
use Rattle.fixed_iv.specs.declared.iv.Iv.{Iv}
use Rattle.fixed_iv.proofs.EndLemmas.{at, at_le, le_at}
use Rattle.fixed_iv.proofs.Held.{Contained, within}
use Rattle.fixed_iv.proofs.OuterLemmas.{in_outer, number_ratio, size_known}
use Rattle.kepler_enc.specs.Guard.{IsUnguarded}
use Rattle.sgp4_drag.specs.Secular.{reach_am, reach_ecc, reach_mean}
use Rattle.sgp4_drag.specs.Guard.{AreAtLeast1, IsInsideGuard}
use Rattle.sgp4_model.specs.MeanElements.{IsEccentricityGuarded}
use Rattle.sgp4_model.specs.OrbitRecords.{MeanRecord}
use Rattle.sgp4_model.specs.Vector.{Vector}
use Rattle.fixed_iv.specs.EnclosedVector.{IsHeldVector, VectorReach}
use Rattle.sgp4_periodic.specs.Ellipse.{reach_ellipse}
use Rattle.sgp4_periodic.specs.Guards.{AreDistant, LieAbove0}
use Rattle.sgp4_periodic.specs.Placed.{reach_at, reach_place}
use Rattle.sgp4_shape.specs.HeldConsts.{ConstReach}
use Rattle.sgp4_shape.specs.HeldMean.{IsHeldMean}
use Rattle.sgp4_shape.specs.declared.mean.Mean.{Mean}
use Rattle.fixed_iv.specs.declared.vec3.Vec3.{Vec3}
use Rattle.orbit_sight.specs.Box.{IsFit, OrbitBox, far_distance}

-- ---- the ends of an interval are numbers that it holds
low_held : (v : Iv) → Holds v (at v.lo)
low_held v = record { low = λ _. le_at (omega (arith, ints)); high = λ _. at_le v.ordered }

high_held : (v : Iv) → Holds v (at v.hi)
high_held v = record { low = λ _. le_at v.ordered; high = λ _. at_le (omega (arith, ints)) }

in_parts : (z : ℤ) → at z ≡ ratio z (2 ^ 48)
unfolding at
in_parts z = sym (ratio_is_product z 281474976710656)

pub low_inside : (e : Extent) (x : ℚ) (r : Reach) → IsKnown e x r.range r.spread → Holds e.ends x → Inside (outer r) (ratio e.ends.lo (2 ^ 48))
low_inside e x r k h = subst (Inside (outer r)) (in_parts e.ends.lo) (in_outer e x r k h (at e.ends.lo) (low_held e.ends))

high_inside : (e : Extent) (x : ℚ) (r : Reach) → IsKnown e x r.range r.spread → Holds e.ends x → Inside (outer r) (ratio e.ends.hi (2 ^ 48))
high_inside e x r k h = subst (Inside (outer r)) (in_parts e.ends.hi) (in_outer e x r k h (at e.ends.hi) (high_held e.ends))

-- a number inside a range that begins, or ends, at some fraction
pub above : (m : ℤ) (d : ℕ) (c : Coef) (z : ℚ) → T (coef_le (record { num = m; under = d }) c) → number_of c ≤ℚ z → ratio m (suc d) ≤ℚ z
above m d c z t h = le_trans (subst (λ y. y ≤ℚ number_of c) (number_ratio (record { num = m; under = d })) (coef_le_holds (record { num = m; under = d }) c t)) h

below : (m : ℤ) (d : ℕ) (c : Coef) (z : ℚ) → T (coef_le c (record { num = m; under = d })) → z ≤ℚ number_of c → z ≤ℚ ratio m (suc d)
below m d c z t h = le_trans h (subst (λ y. number_of c ≤ℚ y) (number_ratio (record { num = m; under = d })) (coef_le_holds c (record { num = m; under = d }) t))

half_above_0 : (z : ℚ) → ratio (pos 1) 2 ≤ℚ z → zero_ℚ <ℚ z
half_above_0 z half = lt_by (z ∷ []) (positive_sum (positive_known 0 2) (gap half)) (search reads depth 90) tt

guarded_between : (z : ℚ) → ratio (negsuc 0) 1000 ≤ℚ z → z ≤ℚ ratio (pos 1) 2 → IsEccentricityGuarded z
guarded_between z low half = record {
  low = le_by (z ∷ []) (gap low) (search reads depth 90) tt;
  high = lt_by (z ∷ []) (positive_sum (positive_known 0 2) (gap half)) (search reads depth 90) tt;
}

small_sizes : (m n a : ℕ) → m ≤ a → n ≤ a → a ≤ 60000000000000 → 281474976710656 ≤ m + n → ⊥
small_sizes m n a p q r t = omega (arith, p, q, r, t)

-- numerals for each coordinate
abbrev pub box_position : OrbitBox → VectorReach
box_position b = record { x = b.coordinate; y = b.coordinate; z = b.coordinate }

module _ {A : Type 0} {C : A → Place → ℚ → Type 0} {E : A → Extent} {told : Bool} (law : Contained C E) (is_told : T told) (k : ConstReach) (b : OrbitBox) (fit : IsFit k b) {h : Place} where
  -- ---- the mean elements
  pub mean_within : {mean : Mean A} {m : MeanRecord} → IsHeldMean C E told mean h m (reach_mean k b.time b.drag) → IsHeldMean C E told mean h m b.mean
  mean_within held = record {
    am = within b.mean.am held.am fit.mean.am;
    em = within b.mean.em held.em fit.mean.em;
    ml = within b.mean.ml held.ml fit.mean.ml;
    wm = within b.mean.wm held.wm fit.mean.wm;
    om = within b.mean.om held.om fit.mean.om;
  }

  -- ---- the position
  pub position_within : {position : Vec3 A} {v : Vector} → IsHeldVector C E told position h v (reach_place k b.mean b.position) → IsHeldVector C E told position h v (box_position b)
  position_within held = record {
    x = within b.coordinate held.x fit.position.x;
    y = within b.coordinate held.y fit.position.y;
    z = within b.coordinate held.z fit.position.z;
  }

  -- ---- the eccentricity
  pub inside_guard : (a : A) (x : ℚ) → IsHeld C E told a h x (reach_ecc k b.time b.drag) → IsInsideGuard (E a).ends
  inside_guard a x held =
      let w = within b.eccentricity held fit.mean.eccentricity in
      let f = w.known is_told fit.certifies.eccentricity_ok in
      let low = low_inside (E a) x b.eccentricity f (law a h x w.covers) in
      let high = high_inside (E a) x b.eccentricity f (law a h x w.covers) in
      record { low = between _ low; high = between _ high }
    where
      between : (z : ℚ) → Inside (outer b.eccentricity) z → IsEccentricityGuarded z
      between z i = guarded_between z (above (negsuc 0) 999 _ z fit.certifies.eccentricity_low i.low) (below (pos 1) 1 _ z fit.certifies.eccentricity_high i.high)

  -- ---- the semimajor axis
  pub axis_certified : (a : A) (x : ℚ) → IsHeld C E told a h x (reach_am k b.time) → AreAtLeast1 (E a).ends
  axis_certified a x held =
      let w = within b.mean.am held fit.mean.am in
      let low = low_inside (E a) x b.mean.am (w.known is_told fit.certifies.axis_ok) (law a h x w.covers) in
      above (pos 1) 0 _ _ fit.certifies.axis_high low.low

  -- ---- Kepler's equation
  pub vector_certified : (a c : A) (x y : ℚ) → IsHeld C E told a h x (reach_ellipse k b.mean).ax → IsHeld C E told c h y (reach_ellipse k b.mean).ay → IsUnguarded (E a).ends (E c).ends → ⊥
  vector_certified a c x y f g u =
      let v = within b.component f fit.position.first in
      let w = within b.component g fit.position.second in
      certified (v.known is_told fit.certifies.component_ok) (w.known is_told fit.certifies.component_ok) (law a h x v.covers) (law c h y w.covers) u
    where
      certified : IsKnown (E a) x b.component.range b.component.spread → IsKnown (E c) y b.component.range b.component.spread → Holds (E a).ends x → Holds (E c).ends y → IsUnguarded (E a).ends (E c).ends → ⊥
      certified f g v w (inl (inl u)) = u f.measured.bounded
      certified f g v w (inl (inr u)) = u g.measured.bounded
      certified f g v w (inr u) = small_sizes (size (E a).ends) (size (E c).ends) (outer_size b.component) (size_known (E a) x b.component f v) (size_known (E c) y b.component g w) fit.certifies.component_small u

  -- ---- the semilatus rectum
  pub rectum_certified : (a : A) (x : ℚ) → IsHeld C E told a h x (reach_ellipse k b.mean).pl → LieAbove0 (E a).ends
  rectum_certified a x held =
      let w = within b.rectum held fit.position.rectum in
      let low = low_inside (E a) x b.rectum (w.known is_told fit.certifies.rectum_ok) (law a h x w.covers) in
      half_above_0 _ (above (pos 1) 1 _ _ fit.certifies.rectum_high low.low)

  -- ---- the distance
  pub distance_certified : (a : A) (x : ℚ) → IsHeld C E told a h x (reach_at k b.mean b.position).mrt → number_of b.far ≤ℚ x → AreDistant (E a).ends
  distance_certified a x held far =
      let w = within b.distance held fit.position.distance in
      let f = w.known is_told fit.certifies.distance_ok in
      let low = low_inside (E a) x (far_distance b) (record { inside = record { low = far; high = f.inside.high }; measured = f.measured; narrow = f.narrow }) (law a h x w.covers) in
      above (pos 102) 99 _ _ fit.certifies.distance_high low.low
