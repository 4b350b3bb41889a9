-- What the steps of the code show of a root.
use Rattle.std.proofs.Common.{◌≡◌, subst, [], ◌∷◌, ◌+◌, ◌-◌, ◌*◌, ◌/◌, ◌^◌, ◌≤◌, ℕ, pos}
use Rattle.exact.specs.Rational.{ℚ, ◌+ℚ◌, ◌-ℚ◌, ◌*ℚ◌, ◌/ℚ◌, zero_ℚ}
use Rattle.exact.proofs.RationalRing.{ring, reads}
use Rattle.exact.proofs.Order.{gap, le_by}
use Rattle.exact.proofs.Strict.{not_zero}
use Rattle.sgp4_model.specs.Angle.{IsNear, IsPi, IsSinCos}
use Rattle.sgp4_model.specs.Kepler.{IsKepler}
use Rattle.fixed_iv.specs.Extent.{Extent, size}
use Rattle.fixed_iv.specs.Holds.{Holds, IsBounded}
use Rattle.fixed_iv.specs.Results.{IsSum}
use Rattle.fixed_iv.specs.Place.{Place}
use Rattle.fixed_iv.specs.declared.iv.Iv.{Iv}
use Rattle.fixed_iv.proofs.Held.{Contained}
use Rattle.kepler_enc.specs.Point.{at}
use Rattle.kepler_enc.proofs.PointLemmas.{holds_low}
use Rattle.fixed_iv.proofs.HeldLemmas.{holds_sum}
use Rattle.kepler_enc.specs.Guard.{IsGuardedSum}
use Rattle.kepler_enc.specs.Radius.{IsAboutZero, IsNextAbove}
use Rattle.kepler_enc.proofs.BallLemmas.{AreAngles, ball, modest_root}
use Rattle.kepler_enc.proofs.RadiusLemmas.{ball_enough, rest_enough}
use Rattle.kepler_enc.proofs.RestLemmas.{rest, rise_at, rises}
use Rattle.kepler_enc.proofs.SizeLemmas.{at_most_half, at_most_one, not_below_zero, below_one, holds_about, modest, near_point, near_size, size_at, sizes_add}

-- What the code knows at a root and at the point: bounds of ax, of ay, and of what the point leaves of the equation.
pub record IsSeen (pi u ax ay root s c : ℚ) (of_ax of_ay of_left point : Iv) (sum : ℕ) : Type 0 where
  pub is_pi : IsPi pi
  pub guarded : IsGuardedSum of_ax of_ay sum
  pub ax_held : Holds of_ax ax
  pub ay_held : Holds of_ay ay
  pub root_is : IsKepler pi u ax ay root
  pub pair : IsSinCos pi (at point.lo) s c
  pub bounded : IsBounded of_left
  pub left_held : Holds of_left (at point.lo +ℚ ay *ℚ c -ℚ ax *ℚ s -ℚ u)

pub seen_of : {A : Type 0} {C : A → Place → ℚ → Type 0} (E : A → Extent) → Contained C E → (e_ax e_ay left : A) (h : Place) (pi u ax ay root s c : ℚ) (point : Iv) (sum : ℕ) →
    IsPi pi → IsGuardedSum (E e_ax).ends (E e_ay).ends sum → C e_ax h ax → C e_ay h ay → IsKepler pi u ax ay root → IsSinCos pi (at point.lo) s c → IsBounded (E left).ends →
    C left h (at point.lo +ℚ ay *ℚ c -ℚ ax *ℚ s -ℚ u) → IsSeen pi u ax ay root s c (E e_ax).ends (E e_ay).ends (E left).ends point sum
seen_of E law e_ax e_ay left h pi u ax ay root s c point sum is_pi guarded of_ax of_ay k pair bounded of_left = record {
  is_pi = is_pi;
  guarded = guarded;
  ax_held = law e_ax h ax of_ax;
  ay_held = law e_ay h ay of_ay;
  root_is = k;
  pair = pair;
  bounded = bounded;
  left_held = law left h _ of_left;
}

module _ {pi u ax ay root s c : ℚ} {of_ax of_ay of_left point : Iv} {sum : ℕ} (h : IsSeen pi u ax ay root s c of_ax of_ay of_left point sum) where
  angles : AreAngles pi u ax ay root h.root_is.turn.sine h.root_is.turn.cosine (at point.lo) s c (at (pos (size of_ax))) (at (pos (size of_ay))) (at (pos sum)) (at (pos (size of_left)))
  angles = record {
    is_pi = h.is_pi;
    of_ax = near_size of_ax ax h.guarded.of_ax h.ax_held;
    of_ay = near_size of_ay ay h.guarded.of_ay h.ay_held;
    sizes = rw h.guarded.is (sizes_add (size of_ax) (size of_ay));
    below_one = below_one sum h.guarded.below;
    of_root = h.root_is.solves.pair;
    of_angle = h.pair;
    solved = h.root_is.solves.residual;
    left = near_size of_left _ h.bounded h.left_held;
  }

  -- the root lies in the ball
  pub in_ball : {radius : ℕ} → IsNextAbove ((size of_left + 1) * 2 ^ 48) (2 ^ 48 - sum) radius → IsNear (at (pos radius)) root (at point.lo)
  in_ball {radius} k = ball angles (modest_root angles (near_point point) (size_at of_left)) (modest (near_point point)) (ball_enough (size of_left) sum radius h.guarded.below k)

  module _ (half : sum ≤ 2 ^ 47) where
    -- the steepness at the point is not 0
    pub not_level : ¬ (rise_at ax ay s c ≡ zero_ℚ)
    not_level = not_zero (rises angles (at_most_half half))

    -- a step of Newton's rule from the point leads near the root
    pub step_rest : {n radius : ℕ} → n ≤ 2 ^ 48 → IsNextAbove ((size of_left + 1) * 2 ^ 48) (2 ^ 48 - sum) n → IsNextAbove ((sum * (n * n / 2 ^ 49 + 1) / 2 ^ 48 + 2) * 2 ^ 48) (2 ^ 48 - sum) radius →
        IsNear (at (pos radius)) (root -ℚ at point.lo +ℚ (at point.lo +ℚ ay *ℚ c -ℚ ax *ℚ s -ℚ u) /ℚ rise_at ax ay s c) zero_ℚ
    step_rest {n} {radius} small k m = rest angles (at_most_half half) (at_most_one small) (in_ball k) (not_below_zero radius) (rest_enough sum n radius h.guarded.below m)

-- the interval of the ball about a point
pub ball_holds : {point ball v : Iv} {radius : ℕ} {root : ℚ} → IsSum point ball v → IsAboutZero radius ball → IsNear (at (pos radius)) root (at point.lo) → Holds v root
ball_holds {point} {ball} {v} {radius} {root} sum about near =
    subst (Holds v) (ring (at point.lo ∷ root ∷ []) (search reads depth 90) tt) (holds_sum sum (holds_low point) (holds_about {x = root -ℚ at point.lo} about shifted))
  where
    shifted : IsNear (at (pos radius)) (root -ℚ at point.lo) zero_ℚ
    shifted = record {
      above = le_by (root ∷ at point.lo ∷ at (pos radius) ∷ []) (gap near.above) (search reads depth 90) tt;
      below = le_by (root ∷ at point.lo ∷ at (pos radius) ∷ []) (gap near.below) (search reads depth 90) tt;
    }

-- the step and its rest lead to the root
pub step_is : (p f d root : ℚ) → p -ℚ f /ℚ d +ℚ (root -ℚ p +ℚ f /ℚ d) ≡ root
step_is p f d root = ring (p ∷ root ∷ (f /ℚ d) ∷ []) (search reads depth 90) tt
