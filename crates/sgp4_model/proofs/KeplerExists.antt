-- Kepler's equation has a root: of angles in small steps, the last at which what is left of the equation is not yet above 0.
use Rattle.std.proofs.Common.{◌≡◌, arith, ap, ◌∙◌, [], ◌∷◌, ℕ, suc, ◌-◌, ◌^◌, pos, ◌+ℤ◌}
use Rattle.std.proofs.lemmas.Int.{ints}
use Rattle.exact.specs.Rational.{ℚ, ◌+ℚ◌, ◌-ℚ◌, ◌*ℚ◌, abs_ℚ, ratio, of_int, one_ℚ, zero_ℚ, ◌≤ℚ◌}
use Rattle.exact.proofs.RationalRing.{ring, reads}
use Rattle.exact.proofs.Order.{◌⊕◌, ◌⊗◌, gap, known, le_by, le_refl, not_negative}
use Rattle.exact.proofs.Bounds.{le_of_abs}
use Rattle.exact.proofs.Strict.{le_of_lt}
use Rattle.exact.proofs.Integers.{of_int_add, of_int_is}
use Rattle.sgp4_model.specs.Angle.{IsPi, IsNear, Pair, part}
use Rattle.sgp4_model.specs.Kepler.{SolvesKepler, kepler_residual}
use Rattle.sgp4_model.specs.KeplerLaws.{KeplerRootExists}
use Rattle.sgp4_model.proofs.Crossing.{IsCrossing, crossing}
use Rattle.sgp4_model.proofs.Near.{near_positive, near_refl, near_times}
use Rattle.sgp4_model.proofs.OwnPair.{own_quarters, own_pair, own_reduced, own_pair_holds}
use Rattle.sgp4_model.proofs.PairLaws.{IsNearPair, no_pair}
use Rattle.sgp4_model.proofs.Pythagoras.{sine_pairs_are_bounded}
use Rattle.sgp4_model.proofs.SamePairs.{IsPlace, same_pairs}

-- the own pairs of two angles differ by what the angles do and 2^-66
own_pairs_near : {d pi x z : ℚ} → IsPi pi → IsNear d x z → IsNearPair (d +ℚ zero_ℚ +ℚ part 66) (own_pair pi x) (own_pair pi z)
own_pairs_near {d} {pi} {x} {z} h k =
    same_pairs zero_ℚ d pi pi x z (own_quarters pi x) (own_quarters pi z) (near_refl pi (le_refl zero_ℚ)) k (at_home x) (at_home z)
  where
    at_home : (y : ℚ) → IsPlace zero_ℚ pi pi y (own_quarters pi y)
    at_home y = record { is_pi = h; in_range = own_reduced h y; turns = near_refl _ (le_refl zero_ℚ) }

-- both numbers of an own pair are at most 1 + 2^-60 in size
own_pair_small : {pi : ℚ} → IsPi pi → (x : ℚ) → IsNearPair (part 60 +ℚ one_ℚ) (own_pair pi x) no_pair
own_pair_small {pi} h x =
    let both = sine_pairs_are_bounded pi x (own_pair pi x).sine (own_pair pi x).cosine h (own_pair_holds h x) in
    record { sine = both.0; cosine = both.1 }

-- a product differs by at most the size of its common factor, times what the other factors differ by
near_by_size : {e a b : ℚ} (t : ℚ) → IsNear e a b → IsNear (abs_ℚ t *ℚ e) (t *ℚ a) (t *ℚ b)
near_by_size t h = near_times t (le_of_abs (le_refl (abs_ℚ t))).0 (le_of_abs (le_refl (abs_ℚ t))).1 h

-- the terms of Kepler's equation in the sine and the cosine
abbrev terms : ℚ → ℚ → Pair → ℚ
terms ax ay p = ay *ℚ p.cosine -ℚ ax *ℚ p.sine

-- they differ by no more than the pairs
terms_near : {e : ℚ} {p q : Pair} (ax ay : ℚ) → abs_ℚ ax +ℚ abs_ℚ ay ≤ℚ one_ℚ → IsNearPair e p q → IsNear e (terms ax ay p) (terms ax ay q)
terms_near {e} {p} {q} ax ay h near =
    record {
      above =
          le_by (e ∷ abs_ℚ ax ∷ abs_ℚ ay ∷ ax ∷ ay ∷ p.sine ∷ p.cosine ∷ q.sine ∷ q.cosine ∷ []) (gap h ⊗ not_negative (near_positive near.sine) ⊕ gap cosine.above ⊕ gap sine.below)
          (search reads depth 90) tt;
      below =
          le_by (e ∷ abs_ℚ ax ∷ abs_ℚ ay ∷ ax ∷ ay ∷ p.sine ∷ p.cosine ∷ q.sine ∷ q.cosine ∷ []) (gap h ⊗ not_negative (near_positive near.sine) ⊕ gap cosine.below ⊕ gap sine.above)
          (search reads depth 90) tt;
    }
  where
    cosine : IsNear (abs_ℚ ay *ℚ e) (ay *ℚ p.cosine) (ay *ℚ q.cosine)
    cosine = near_by_size ay near.cosine

    sine : IsNear (abs_ℚ ax *ℚ e) (ax *ℚ p.sine) (ax *ℚ q.sine)
    sine = near_by_size ax near.sine

-- ---- angles in steps of 2^-62
-- the angle after n steps from u - 2
abbrev angle_at : ℚ → ℕ → ℚ
angle_at u n = u -ℚ ratio (pos 2) 1 +ℚ of_int (pos n) *ℚ part 62

-- a step more
next_angle : (u : ℚ) (n : ℕ) → angle_at u (suc n) ≡ angle_at u n +ℚ part 62
next_angle u n =
    ap (λ t. u -ℚ ratio (pos 2) 1 +ℚ of_int t *ℚ part 62) next
    ∙ ap (λ t. u -ℚ ratio (pos 2) 1 +ℚ t *ℚ part 62) (of_int_add (pos n) (pos 1))
    ∙ ap (λ t. u -ℚ ratio (pos 2) 1 +ℚ (of_int (pos n) +ℚ t) *ℚ part 62) (of_int_is (pos 1))
    ∙ ring (u ∷ of_int (pos n) ∷ []) (search reads depth 90) tt
  where
    next : pos (suc n) ≡ pos n +ℤ pos 1
    next = omega (arith, ints)

-- the angles before and after a step are near
step_near : (u : ℚ) (n : ℕ) → IsNear (part 62) (angle_at u (suc n)) (angle_at u n)
step_near u n =
    rw (next_angle u n)
    record {
      above = le_refl (angle_at u n +ℚ part 62);
      below = le_by (angle_at u n ∷ []) (known 2 (2 ^ 62)) (search reads depth 90) tt;
    }

-- no step
first_angle : (u : ℚ) → angle_at u 0 ≡ u -ℚ ratio (pos 2) 1
first_angle u = rw (of_int_is (pos 0)) (ring (u ∷ []) (search reads depth 90) tt)

-- 2^64 steps
last_angle : (u : ℚ) → angle_at u (2 ^ 64) ≡ u +ℚ ratio (pos 2) 1
last_angle u = rw (of_int_is (pos (2 ^ 64))) (ring (u ∷ []) (search reads depth 90) tt)

-- ---- what is left of the equation, over plain numbers
-- 2 before u it is not above 0
left_at_first : (u ax ay x : ℚ) (p : Pair) → x ≡ u -ℚ ratio (pos 2) 1 → IsNear (part 60 +ℚ one_ℚ) (terms ax ay p) (terms ax ay no_pair) →
    kepler_residual u ax ay x p ≤ℚ zero_ℚ
left_at_first u ax ay x p e near =
    rw e (le_by (u ∷ ax ∷ ay ∷ p.sine ∷ p.cosine ∷ []) (gap near.above ⊕ known (2 ^ 60 - 1) (2 ^ 60)) (search reads depth 90) tt)

-- 2 after u it is not below 0
left_at_last : (u ax ay x : ℚ) (p : Pair) → x ≡ u +ℚ ratio (pos 2) 1 → IsNear (part 60 +ℚ one_ℚ) (terms ax ay p) (terms ax ay no_pair) →
    zero_ℚ ≤ℚ kepler_residual u ax ay x p
left_at_last u ax ay x p e near =
    rw e (le_by (u ∷ ax ∷ ay ∷ p.sine ∷ p.cosine ∷ []) (gap near.below ⊕ known (2 ^ 60 - 1) (2 ^ 60)) (search reads depth 90) tt)

-- where a step takes it past 0, it is at most 2^-60 in size before the step
left_at_crossing : (u ax ay x z : ℚ) (p q : Pair) → IsNear (part 62) z x → IsNear (part 62 +ℚ zero_ℚ +ℚ part 66) (terms ax ay q) (terms ax ay p) →
    kepler_residual u ax ay x p ≤ℚ zero_ℚ → zero_ℚ ≤ℚ kepler_residual u ax ay z q → IsNear (part 60) (kepler_residual u ax ay x p) zero_ℚ
left_at_crossing u ax ay x z p q near moved low high =
    record {
      above = le_by (u ∷ ax ∷ ay ∷ x ∷ p.sine ∷ p.cosine ∷ []) (gap low ⊕ known 1 (2 ^ 60)) (search reads depth 90) tt;
      below =
          le_by (u ∷ ax ∷ ay ∷ x ∷ z ∷ p.sine ∷ p.cosine ∷ q.sine ∷ q.cosine ∷ []) (gap high ⊕ gap near.above ⊕ gap moved.above ⊕ known 31 (2 ^ 66))
          (search reads depth 90) tt;
    }

-- ---- the root
-- what is left of the equation after n steps
abbrev left_at : ℚ → ℚ → ℚ → ℚ → ℕ → ℚ
left_at pi u ax ay n = kepler_residual u ax ay (angle_at u n) (own_pair pi (angle_at u n))

module _ (pi u ax ay : ℚ) (is_pi : IsPi pi) (small : abs_ℚ ax +ℚ abs_ℚ ay ≤ℚ one_ℚ) where
  -- the terms of an own pair are at most 1 + 2^-60 in all
  terms_small : (x : ℚ) → IsNear (part 60 +ℚ one_ℚ) (terms ax ay (own_pair pi x)) (terms ax ay no_pair)
  terms_small x = terms_near ax ay small (own_pair_small is_pi x)

  -- a step moves the terms by at most 2^-62 + 2^-66
  terms_step : (n : ℕ) → IsNear (part 62 +ℚ zero_ℚ +ℚ part 66) (terms ax ay (own_pair pi (angle_at u (suc n)))) (terms ax ay (own_pair pi (angle_at u n)))
  terms_step n = terms_near ax ay small (own_pairs_near is_pi (step_near u n))

  -- an angle before the step past 0 solves the equation
  by_crossing : (n last : ℕ) → IsCrossing (left_at pi u ax ay) zero_ℚ last n → SolvesKepler pi u ax ay (angle_at u n) (own_pair pi (angle_at u n))
  by_crossing n last w =
      record {
        pair = own_pair_holds is_pi (angle_at u n);
        residual =
            left_at_crossing u ax ay (angle_at u n) (angle_at u (suc n)) (own_pair pi (angle_at u n)) (own_pair pi (angle_at u (suc n))) (step_near u n)
            (terms_step n) w.below w.above;
      }

-- there is such an angle
pub kepler_root_exists : KeplerRootExists
kepler_root_exists pi u ax ay is_pi less =
    let found = crossing (left_at pi u ax ay) zero_ℚ (2 ^ 64 - 1) start end in
    (angle_at u found.0, (own_pair pi (angle_at u found.0), by_crossing pi u ax ay is_pi (le_of_lt less) found.0 (2 ^ 64 - 1) found.1))
  where
    start : left_at pi u ax ay 0 ≤ℚ zero_ℚ
    start = left_at_first u ax ay (angle_at u 0) (own_pair pi (angle_at u 0)) (first_angle u) (terms_small pi u ax ay is_pi (le_of_lt less) (angle_at u 0))

    end : zero_ℚ ≤ℚ left_at pi u ax ay (suc (2 ^ 64 - 1))
    end = left_at_last u ax ay (angle_at u (2 ^ 64)) (own_pair pi (angle_at u (2 ^ 64))) (last_angle u) (terms_small pi u ax ay is_pi (le_of_lt less) (angle_at u (2 ^ 64)))
