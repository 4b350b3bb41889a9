-- A round of Newton's rule leaves little of the equation.
use Rattle.std.proofs.Common.{◌≡◌, subst, ◌∙◌, [], ◌∷◌, pos, ◌^◌}
use Rattle.exact.specs.Rational.{ℚ, ◌+ℚ◌, ◌-ℚ◌, ◌*ℚ◌, ◌/ℚ◌, ratio, zero_ℚ, one_ℚ, ◌≤ℚ◌}
use Rattle.exact.proofs.RationalRing.{ring, reads}
use Rattle.exact.proofs.Order.{NonNeg, gap, known, le_by, le_trans, not_negative, ◌⊕◌, ◌⊗◌}
use Rattle.exact.proofs.Strict.{Positive, positive_weak}
use Rattle.sgp4_model.specs.Angle.{IsNear, IsPi, IsSinCos, part}
use Rattle.sgp4_model.proofs.Near.{near_positive, near_sym, near_times, near_trans, near_weaken}
use Rattle.sgp4_model.proofs.PairSlopes.{sine_pairs_follow_their_slope}
use Rattle.sgp4_model.proofs.Pythagoras.{sine_pairs_are_bounded}
use Rattle.kepler_enc.proofs.BallLemmas.{scaled}
use Rattle.kepler_enc.proofs.RestLemmas.{along_slope, quotient_near, quotient_times, rise_at, rise_positive, steep}

-- the steepness is at most 2
rise_below : (ax ay s c a b l : ℚ) → IsNear a ax zero_ℚ → IsNear b ay zero_ℚ → a +ℚ b ≤ℚ l → l ≤ℚ ratio (pos 1) 2 → IsNear (part 60 +ℚ one_ℚ) s zero_ℚ → IsNear (part 60 +ℚ one_ℚ) c zero_ℚ →
    rise_at ax ay s c ≤ℚ ratio (pos 2) 1
rise_below ax ay s c a b l of_ax of_ay sizes half sine cosine =
    let x = scaled ax of_ax cosine in
    let y = scaled ay of_ay sine in
    le_by (ax ∷ ay ∷ s ∷ c ∷ a ∷ b ∷ l ∷ [])
    (gap x.below ⊕ gap y.below ⊕ (known 1 1 ⊕ known 1 (2 ^ 60)) ⊗ gap sizes ⊕ (known 1 1 ⊕ known 1 (2 ^ 60)) ⊗ gap half ⊕ known 1152921504606846975 (2 ^ 61))
    (search reads depth 90) tt

-- An angle leaves z at most. Where a step from it misses Newton's by m at most, and moves by q at most, the next angle
-- leaves 2 m and the bend over q.
pub round : (pi u ax ay angle s c other t d a b l z m q : ℚ) → IsPi pi → IsNear a ax zero_ℚ → IsNear b ay zero_ℚ → a +ℚ b ≤ℚ l → l ≤ℚ ratio (pos 1) 2 → Positive (one_ℚ -ℚ l) →
    IsSinCos pi angle s c → IsSinCos pi other t d → IsNear z (angle +ℚ ay *ℚ c -ℚ ax *ℚ s -ℚ u) zero_ℚ →
    IsNear m other (angle -ℚ (angle +ℚ ay *ℚ c -ℚ ax *ℚ s -ℚ u) /ℚ rise_at ax ay s c) →
    NonNeg (q -ℚ m) → z ≤ℚ (q -ℚ m) *ℚ ((one_ℚ -ℚ l) *ℚ (one_ℚ -ℚ part 60)) → q ≤ℚ one_ℚ →
    IsNear (ratio (pos 2) 1 *ℚ m +ℚ l *ℚ (ratio (pos 1) 2 *ℚ (q *ℚ q) +ℚ part 54)) (other +ℚ ay *ℚ d -ℚ ax *ℚ t -ℚ u) zero_ℚ
round pi u ax ay angle s c other t d a b l z m q is_pi of_ax of_ay sizes half below_one of_angle of_other left step sign moves small =
    let n = sine_pairs_are_bounded pi angle s c is_pi of_angle in
    let rises = rise_positive ax ay s c a b l of_ax of_ay sizes half n.0 n.1 below_one in
    let least = steep ax ay s c a b l of_ax of_ay sizes half n.0 n.1 in
    let most = rise_below ax ay s c a b l of_ax of_ay sizes half n.0 n.1 in
    let f = angle +ℚ ay *ℚ c -ℚ ax *ℚ s -ℚ u in
    let way = quotient_near zero_ℚ f (rise_at ax ay s c) (q -ℚ m) z rises (zero_more (rise_at ax ay s c) left) (le_trans moves (le_by ((q -ℚ m) ∷ l ∷ rise_at ax ay s c ∷ []) (sign ⊗ gap least) (search reads depth 90) tt)) in
    let moved = distance (f /ℚ rise_at ax ay s c) way step in
    let pairs = sine_pairs_follow_their_slope pi angle (other -ℚ angle) s c t d is_pi (near_weaken small moved) of_angle (subst (λ x. IsSinCos pi x t d) (ring (other ∷ angle ∷ []) (search reads depth 90) tt) of_other) in
    let bent = along_slope u ax ay other t d angle s c a b l _ of_ax of_ay sizes pairs.0 pairs.1 in
    let miss = near_times (rise_at ax ay s c) (le_by (rise_at ax ay s c ∷ []) (known 2 1 ⊕ positive_weak rises) (search reads depth 90) tt) most (off (f /ℚ rise_at ax ay s c) step) in
    let missed = at_slope (rise_at ax ay s c) (turn _ _ ∙ quotient_times (other -ℚ angle) f (rise_at ax ay s c) rises) miss in
    let sign_l = not_negative (le_trans (le_by (a ∷ b ∷ []) (not_negative (near_positive of_ax) ⊕ not_negative (near_positive of_ay)) (search reads depth 90) tt) sizes) in
    near_weaken (widen sign_l moved) (near_trans (near_sym bent) missed)
  where
    zero_more : {w x : ℚ} (y : ℚ) → IsNear w x zero_ℚ → IsNear w (zero_ℚ *ℚ y +ℚ x) zero_ℚ
    zero_more {w} {x} y h = record {
      above = le_by (w ∷ x ∷ y ∷ []) (gap h.above) (search reads depth 90) tt;
      below = le_by (w ∷ x ∷ y ∷ []) (gap h.below) (search reads depth 90) tt;
    }

    distance : (v : ℚ) → IsNear (q -ℚ m) (zero_ℚ +ℚ v) zero_ℚ → IsNear m other (angle -ℚ v) → IsNear q (other -ℚ angle) zero_ℚ
    distance v h k = record {
      above = le_by (v ∷ q ∷ m ∷ other ∷ angle ∷ []) (gap h.below ⊕ gap k.above) (search reads depth 90) tt;
      below = le_by (v ∷ q ∷ m ∷ other ∷ angle ∷ []) (gap h.above ⊕ gap k.below) (search reads depth 90) tt;
    }

    off : (v : ℚ) → IsNear m other (angle -ℚ v) → IsNear m (other -ℚ angle +ℚ v) zero_ℚ
    off v k = record {
      above = le_by (v ∷ m ∷ other ∷ angle ∷ []) (gap k.above) (search reads depth 90) tt;
      below = le_by (v ∷ m ∷ other ∷ angle ∷ []) (gap k.below) (search reads depth 90) tt;
    }

    turn : (x y : ℚ) → x *ℚ y ≡ y *ℚ x
    turn x y = ring (x ∷ y ∷ []) (search reads depth 90) tt

    at_slope : {w x v : ℚ} (y : ℚ) → x ≡ v → IsNear w x (y *ℚ zero_ℚ) → IsNear w v zero_ℚ
    at_slope {w} {x} {v} y e k = subst (λ z. IsNear w z zero_ℚ) e (subst (λ z. IsNear w x z) (ring (y ∷ []) (search reads depth 90) tt) k)

    widen : NonNeg l → IsNear q (other -ℚ angle) zero_ℚ →
        l *ℚ (ratio (pos 1) 2 *ℚ ((other -ℚ angle) *ℚ (other -ℚ angle)) +ℚ part 54) +ℚ ratio (pos 2) 1 *ℚ m ≤ℚ ratio (pos 2) 1 *ℚ m +ℚ l *ℚ (ratio (pos 1) 2 *ℚ (q *ℚ q) +ℚ part 54)
    widen p k = le_by (other ∷ angle ∷ l ∷ m ∷ q ∷ []) (known 1 2 ⊗ (p ⊗ (gap k.above ⊗ gap k.below))) (search reads depth 90) tt

-- what u itself leaves, with any pair of it
pub first_left : (u ax ay s c a b l : ℚ) → IsNear a ax zero_ℚ → IsNear b ay zero_ℚ → a +ℚ b ≤ℚ l → l ≤ℚ ratio (pos 1) 2 → IsNear (part 60 +ℚ one_ℚ) s zero_ℚ → IsNear (part 60 +ℚ one_ℚ) c zero_ℚ →
    IsNear (l +ℚ part 48) (u +ℚ ay *ℚ c -ℚ ax *ℚ s -ℚ u) zero_ℚ
first_left u ax ay s c a b l of_ax of_ay sizes half sine cosine =
    let x = scaled ax of_ax sine in
    let y = scaled ay of_ay cosine in
    record {
      above = le_by (u ∷ ax ∷ ay ∷ s ∷ c ∷ a ∷ b ∷ l ∷ []) (gap x.below ⊕ gap y.above ⊕ (known 1 1 ⊕ known 1 (2 ^ 60)) ⊗ gap sizes ⊕ known 1 (2 ^ 60) ⊗ gap half ⊕ known 8191 (2 ^ 61)) (search reads depth 90) tt;
      below = le_by (u ∷ ax ∷ ay ∷ s ∷ c ∷ a ∷ b ∷ l ∷ []) (gap x.above ⊕ gap y.below ⊕ (known 1 1 ⊕ known 1 (2 ^ 60)) ⊗ gap sizes ⊕ known 1 (2 ^ 60) ⊗ gap half ⊕ known 8191 (2 ^ 61)) (search reads depth 90) tt;
    }
