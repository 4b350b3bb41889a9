-- A step from a point where numerals say how large all is.
use Rattle.std.proofs.Common.{Bool, T, ◌≡◌, arith, subst, [], ◌∷◌, ℕ, ◌+◌, ◌-◌, ◌*◌, ◌/◌, ◌^◌, ◌≤◌, pos, le_trans as nat_trans}
use Rattle.std.proofs.lemmas.Int.{ints}
use Rattle.exact.specs.Rational.{ℚ, ratio, ◌+ℚ◌, ◌-ℚ◌, ◌*ℚ◌, zero_ℚ, one_ℚ, ◌≤ℚ◌}
use Rattle.exact.proofs.RationalRing.{ring, reads}
use Rattle.exact.proofs.Order.{gap, known, le_by, le_trans, not_negative, ◌⊕◌, ◌⊗◌}
use Rattle.exact.specs.Interval.{Inside, interval_add}
use Rattle.exact.proofs.Intervals.{interval_add_holds}
use Rattle.sgp4_model.specs.Angle.{IsNear, IsPi, IsSinCos, part}
use Rattle.sgp4_model.specs.Kepler.{IsKepler}
use Rattle.sgp4_model.proofs.Near.{near_positive, near_weaken}
use Rattle.sgp4_model.proofs.Pythagoras.{sine_pairs_are_bounded}
use Rattle.fixed_iv.specs.Extent.{Extent, size}
use Rattle.fixed_iv.specs.Holds.{Holds}
use Rattle.fixed_iv.specs.Reach.{IsGiven, IsHeld, IsKnown, Reach, outer}
use Rattle.fixed_iv.specs.Place.{Place}
use Rattle.fixed_iv.specs.declared.iv.Iv.{Iv}
use Rattle.fixed_iv.proofs.Held.{Contained}
use Rattle.kepler_enc.specs.Point.{at}
use Rattle.fixed_iv.proofs.OuterLemmas.{in_outer, size_known, width_is}
use Rattle.kepler_enc.specs.Guard.{IsGuardedSum}
use Rattle.kepler_enc.specs.Guess.{IsGoodGuess, LeavesAtMost}
use Rattle.kepler_enc.specs.Radius.{IsAboutZero, IsNextAbove}
use Rattle.kepler_enc.specs.Spread.{about_one, ball_of, left_of, rest_of, root_from, tried, within_units}
use Rattle.kepler_enc.proofs.BallLemmas.{scaled}
use Rattle.kepler_enc.proofs.DistanceLemmas.{at_most, inside_units, near_width}
use Rattle.kepler_enc.proofs.SizedLemmas.{rise_inside, tried_inside}
use Rattle.kepler_enc.proofs.RestLemmas.{rise_at}
use Rattle.kepler_enc.proofs.SizeLemmas.{at_add, at_most_half, at_numeral, holds_about, near_size, sizes_add}
use Rattle.kepler_enc.proofs.SpreadLemmas.{IsStepping, ball_rises, rest_rises, stepping_of}

-- enclosures of u, ax and ay with their numerals, and an angle that leaves n units at most
pub record IsCase (e_u e_ax e_ay : Extent) (pi u ax ay angle s c : ℚ) (r_u r_ax r_ay : Reach) (most n : ℕ) : Type 0 where
  pub is_pi : IsPi pi
  pub u_held : Holds e_u.ends u
  pub ax_held : Holds e_ax.ends ax
  pub ay_held : Holds e_ay.ends ay
  pub u_known : IsKnown e_u u r_u.range r_u.spread
  pub ax_known : IsKnown e_ax ax r_ax.range r_ax.spread
  pub ay_known : IsKnown e_ay ay r_ay.range r_ay.spread
  pub sizes : size e_ax.ends + size e_ay.ends ≤ most
  pub pair : IsSinCos pi angle s c
  pub left : IsNear (at (pos n)) (angle +ℚ ay *ℚ c -ℚ ax *ℚ s -ℚ u) zero_ℚ
  pub stepping : IsStepping r_u r_ax r_ay most n

pub case_of : {A : Type 0} {C : A → Place → ℚ → Type 0} {E : A → Extent} {told : Bool} → Contained C E → T told → (e_u e_ax e_ay : A) (h : Place) (pi u ax ay angle s c : ℚ) (r_u r_ax r_ay : Reach) (most n : ℕ) →
    IsPi pi → IsSinCos pi angle s c → IsHeld C E told e_u h u r_u → IsHeld C E told e_ax h ax r_ax → IsHeld C E told e_ay h ay r_ay → T (root_from r_u r_ax r_ay most n).ok →
    LeavesAtMost n pi u ax ay angle × (size (E e_ax).ends + size (E e_ay).ends ≤ most) → IsCase (E e_u) (E e_ax) (E e_ay) pi u ax ay angle s c r_u r_ax r_ay most n
case_of law told e_u e_ax e_ay h pi u ax ay angle s c r_u r_ax r_ay most n is_pi pair k_u k_ax k_ay ok facts =
    let stepping = stepping_of r_u r_ax r_ay most n ok in
    record {
      is_pi = is_pi;
      u_held = law e_u h u k_u.covers;
      ax_held = law e_ax h ax k_ax.covers;
      ay_held = law e_ay h ay k_ay.covers;
      u_known = k_u.known told stepping.of_u;
      ax_known = k_ax.known told stepping.of_ax;
      ay_known = k_ay.known told stepping.of_ay;
      sizes = facts.1;
      pair = pair;
      left = facts.0 s c pair;
      stepping = stepping;
    }

-- a root lies within 1 of u
near_u : (pi u ax ay root a b l : ℚ) → IsPi pi → IsNear a ax zero_ℚ → IsNear b ay zero_ℚ → a +ℚ b ≤ℚ l → l ≤ℚ ratio (pos 1) 2 → IsKepler pi u ax ay root → IsNear one_ℚ (root -ℚ u) zero_ℚ
near_u pi u ax ay root a b l is_pi of_ax of_ay sizes half k =
    let n = sine_pairs_are_bounded pi root k.turn.sine k.turn.cosine is_pi k.solves.pair in
    let x = scaled ax of_ax n.0 in
    let y = scaled ay of_ay n.1 in
    record {
      above = le_by (u ∷ ax ∷ ay ∷ root ∷ k.turn.sine ∷ k.turn.cosine ∷ a ∷ b ∷ l ∷ []) (gap k.solves.residual.above ⊕ gap x.above ⊕ gap y.below ⊕ (known 1 1 ⊕ known 1 (2 ^ 60)) ⊗ (gap sizes ⊕ gap half) ⊕ known 1152921504606846973 (2 ^ 61)) (search reads depth 90) tt;
      below = le_by (u ∷ ax ∷ ay ∷ root ∷ k.turn.sine ∷ k.turn.cosine ∷ a ∷ b ∷ l ∷ []) (gap k.solves.residual.below ⊕ gap x.below ⊕ gap y.above ⊕ (known 1 1 ⊕ known 1 (2 ^ 60)) ⊗ (gap sizes ⊕ gap half) ⊕ known 1152921504606846973 (2 ^ 61)) (search reads depth 90) tt;
    }

module _ {e_u e_ax e_ay : Extent} {pi u ax ay angle s c : ℚ} {r_u r_ax r_ay : Reach} {most n : ℕ} (h : IsCase e_u e_ax e_ay pi u ax ay angle s c r_u r_ax r_ay most n) where
  of_ax : IsNear (at (pos (size e_ax.ends))) ax zero_ℚ
  of_ax = near_size e_ax.ends ax h.ax_known.measured.bounded h.ax_held

  of_ay : IsNear (at (pos (size e_ay.ends))) ay zero_ℚ
  of_ay = near_size e_ay.ends ay h.ay_known.measured.bounded h.ay_held

  of_both : at (pos (size e_ax.ends)) +ℚ at (pos (size e_ay.ends)) ≤ℚ at (pos most)
  of_both = le_trans (sizes_add (size e_ax.ends) (size e_ay.ends)) (at_most h.sizes)

  pub case_rise : Inside (about_one (most + 1)) (rise_at ax ay s c)
  case_rise =
      let m = sine_pairs_are_bounded pi angle s c h.is_pi h.pair in
      rise_inside ax ay s c _ _ most of_ax of_ay of_both h.stepping.sizes m.0 m.1

  pub case_inside : Inside (interval_add (outer r_u) (within_units (2 ^ 49))) angle
  case_inside =
      let m = sine_pairs_are_bounded pi angle s c h.is_pi h.pair in
      tried_inside (outer r_u) u ax ay angle s c _ _ _ n (in_outer e_u u r_u h.u_known h.u_held u h.u_held) of_ax of_ay of_both (at_most_half h.stepping.sizes) m.0 m.1 h.stepping.left h.left

  pub case_root : {root : ℚ} → IsKepler pi u ax ay root → Inside (interval_add r_u.range (within_units (2 ^ 48))) root
  case_root {root} k =
      subst (Inside (interval_add r_u.range (within_units (2 ^ 48)))) (ring (u ∷ root ∷ []) (search reads depth 90) tt)
      (interval_add_holds r_u.range (within_units (2 ^ 48)) u (root -ℚ u) h.u_known.inside
      (inside_units (2 ^ 48) (root -ℚ u) (rw (at_numeral (2 ^ 48)) (one_is (near_u pi u ax ay root _ _ _ h.is_pi of_ax of_ay of_both (at_most_half h.stepping.sizes) k)))))
    where
      one_is : {x : ℚ} → IsNear one_ℚ x zero_ℚ → IsNear (ratio (pos 281474976710656) 281474976710656) x zero_ℚ
      one_is {x} k = record { above = le_by (x ∷ []) (gap k.above) (search reads depth 90) tt; below = le_by (x ∷ []) (gap k.below) (search reads depth 90) tt }

  module _ {sum : ℕ} (g : IsGuardedSum e_ax.ends e_ay.ends sum) where
    sum_within : sum ≤ most
    sum_within = omega (arith, g.is, h.sizes)

    pub case_sum : sum ≤ 2 ^ 47
    case_sum = nat_trans sum_within h.stepping.sizes

    module _ {e_left : Extent} {f : ℚ} {radius : ℕ} (k : IsKnown e_left f (left_of (tried r_u) r_u r_ax r_ay n).range (left_of (tried r_u) r_u r_ax r_ay n).spread) (held : Holds e_left.ends f)
        (ball : IsNextAbove ((size e_left.ends + 1) * 2 ^ 48) (2 ^ 48 - sum) radius) where
      radius_within : radius ≤ ball_of r_u r_ax r_ay most n
      radius_within = ball_rises r_u r_ax r_ay most n _ sum radius (size_known e_left f (left_of (tried r_u) r_u r_ax r_ay n) k held) sum_within h.stepping.sizes ball

      pub case_radius : radius ≤ 2 ^ 48
      case_radius = nat_trans radius_within h.stepping.ball

      -- the interval of the rest
      pub case_rest : {rest : ℕ} {v : Iv} {x : ℚ} → IsNextAbove ((sum * (radius * radius / 2 ^ 49 + 1) / 2 ^ 48 + 2) * 2 ^ 48) (2 ^ 48 - sum) rest → IsAboutZero rest v → IsNear (at (pos rest)) x zero_ℚ →
          IsGiven v x (within_units (rest_of r_u r_ax r_ay most n)) (2 * rest_of r_u r_ax r_ay most n)
      case_rest {rest} {v} {x} a about near =
          let m = rest_rises r_u r_ax r_ay most n sum radius rest radius_within sum_within h.stepping.sizes a in
          about_given v x (nat_trans m h.stepping.rest) m about near
        where
          about_given : (v : Iv) (x : ℚ) {rest limit : ℕ} → rest ≤ 2 ^ 61 → rest ≤ limit → IsAboutZero rest v → IsNear (at (pos rest)) x zero_ℚ → IsGiven v x (within_units limit) (2 * limit)
          about_given v x {rest} {limit} small m about near =
              let low = about.low (omega arith) in
              let high = about.high (omega arith) in
              record {
                holds = holds_about about near;
                bounded = record { low = omega (arith, ints, low, small); high = omega (arith, ints, high, small) };
                within = omega (arith, ints, width_is v, low, high, m);
                inside = inside_units limit x (near_weaken (at_most m) near);
              }

-- ---- what a guess for the middles leaves for all numbers of the bounds
-- numbers of narrow bounds are near
pub near_known : (e : Extent) (x y : ℚ) (r : Reach) → IsKnown e x r.range r.spread → Holds e.ends x → Holds e.ends y → IsNear (at (pos r.spread)) x y
near_known e x y r k h m = near_weaken (at_most (nat_trans k.measured.width k.narrow)) (near_width e.ends x y k.measured.bounded h m)

shifted : (u ax ay v bx by angle s c m w x y : ℚ) → IsNear m (angle +ℚ by *ℚ c -ℚ bx *ℚ s -ℚ v) zero_ℚ → IsNear w u v → IsNear x ax bx → IsNear y ay by →
    IsNear (part 60 +ℚ one_ℚ) s zero_ℚ → IsNear (part 60 +ℚ one_ℚ) c zero_ℚ →
    IsNear (m +ℚ w +ℚ ratio (pos 2) 1 *ℚ (x +ℚ y)) (angle +ℚ ay *ℚ c -ℚ ax *ℚ s -ℚ u) zero_ℚ
shifted u ax ay v bx by angle s c m w x y left near_u near_ax near_ay sine cosine =
    let t = scaled s sine near_ax in
    let d = scaled c cosine near_ay in
    let more = known 1152921504606846975 (2 ^ 60) ⊗ (not_negative (near_positive near_ax) ⊕ not_negative (near_positive near_ay)) in
    record {
      above = le_by (u ∷ ax ∷ ay ∷ v ∷ bx ∷ by ∷ angle ∷ s ∷ c ∷ m ∷ w ∷ x ∷ y ∷ []) (gap left.above ⊕ gap near_u.below ⊕ gap t.below ⊕ gap d.above ⊕ more) (search reads depth 90) tt;
      below = le_by (u ∷ ax ∷ ay ∷ v ∷ bx ∷ by ∷ angle ∷ s ∷ c ∷ m ∷ w ∷ x ∷ y ∷ []) (gap left.below ⊕ gap near_u.above ⊕ gap t.above ⊕ gap d.below ⊕ more) (search reads depth 90) tt;
    }

units_add : (m w x y : ℕ) → at (pos m) +ℚ at (pos w) +ℚ ratio (pos 2) 1 *ℚ (at (pos x) +ℚ at (pos y)) ≡ at (pos (m + w + 2 * (x + y)))
units_add m w x y =
    rw (double x y, at_add (m + w) (x + y + (x + y)), at_add m w, at_add (x + y) (x + y), at_add x y) (ring (at (pos m) ∷ at (pos w) ∷ at (pos x) ∷ at (pos y) ∷ []) (search reads depth 90) tt)
  where
    double : (x y : ℕ) → 2 * (x + y) ≡ x + y + (x + y)
    double x y = omega arith

pub good_leaves : (e_u e_ax e_ay : Extent) (pi u ax ay : ℚ) (r_u r_ax r_ay : Reach) (m : ℕ) (point : Iv) → IsPi pi → IsKnown e_u u r_u.range r_u.spread → IsKnown e_ax ax r_ax.range r_ax.spread → IsKnown e_ay ay r_ay.range r_ay.spread →
    Holds e_u.ends u → Holds e_ax.ends ax → Holds e_ay.ends ay → IsGoodGuess m pi e_u.ends e_ax.ends e_ay.ends point → LeavesAtMost (m + r_u.spread + 2 * (r_ax.spread + r_ay.spread)) pi u ax ay (at point.lo)
good_leaves e_u e_ax e_ay pi u ax ay r_u r_ax r_ay m point is_pi k_u k_ax k_ay h_u h_ax h_ay good s c pair =
    let n = sine_pairs_are_bounded pi (at point.lo) s c is_pi pair in
    subst (λ t. IsNear t (at point.lo +ℚ ay *ℚ c -ℚ ax *ℚ s -ℚ u) zero_ℚ) (units_add m r_u.spread r_ax.spread r_ay.spread)
    (shifted u ax ay good.middle_u good.middle_ax good.middle_ay (at point.lo) s c _ _ _ _ (good.leaves s c pair)
    (near_known e_u u good.middle_u r_u k_u h_u good.of_u) (near_known e_ax ax good.middle_ax r_ax k_ax h_ax good.of_ax) (near_known e_ay ay good.middle_ay r_ay k_ay h_ay good.of_ay) n.0 n.1)
