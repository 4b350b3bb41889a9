-- How far a root lies from where a step of Newton's rule leads.
use Rattle.std.proofs.Common.{◌≡◌, subst, ap, ◌∙◌, [], ◌∷◌, pos, ◌^◌}
use Rattle.exact.specs.Rational.{ℚ, ◌+ℚ◌, ◌-ℚ◌, ◌*ℚ◌, ◌/ℚ◌, inverse, ratio, zero_ℚ, one_ℚ, ◌≤ℚ◌}
use Rattle.exact.proofs.RationalRing.{ring, reads}
use Rattle.exact.proofs.Order.{NonNeg, gap, known, le_by, le_trans, not_negative, ◌⊕◌, ◌⊗◌}
use Rattle.exact.proofs.Strict.{Positive, mul_inverse, not_zero, positive_known, positive_product, positive_sum}
use Rattle.sgp4_model.specs.Angle.{IsNear, IsSinCos, part}
use Rattle.sgp4_model.proofs.Near.{near_positive, near_trans}
use Rattle.sgp4_model.proofs.PairSlopes.{sine_pairs_follow_their_slope}
use Rattle.sgp4_model.proofs.Pythagoras.{sine_pairs_are_bounded}
use Rattle.kepler_enc.proofs.BallLemmas.{AreAngles, le_cancel, scaled}

-- how steeply what is left of the equation rises
abbrev pub rise_at : ℚ → ℚ → ℚ → ℚ → ℚ
rise_at ax ay s c = one_ℚ -ℚ ay *ℚ s -ℚ ax *ℚ c

-- it is at least 1 - l, less a 2^-60th of it
pub steep : (ax ay s c a b l : ℚ) → IsNear a ax zero_ℚ → IsNear b ay zero_ℚ → a +ℚ b ≤ℚ l → l ≤ℚ ratio (pos 1) 2 → IsNear (part 60 +ℚ one_ℚ) s zero_ℚ → IsNear (part 60 +ℚ one_ℚ) c zero_ℚ →
    (one_ℚ -ℚ l) *ℚ (one_ℚ -ℚ part 60) ≤ℚ rise_at ax ay s c
steep ax ay s c a b l of_ax of_ay sizes half sine cosine =
    let x = scaled ax of_ax cosine in
    let y = scaled ay of_ay sine in
    le_by (ax ∷ ay ∷ s ∷ c ∷ a ∷ b ∷ l ∷ [])
    (gap x.above ⊕ gap y.above ⊕ (known 1 1 ⊕ known 1 (2 ^ 60)) ⊗ gap sizes ⊕ known 2 (2 ^ 60) ⊗ gap half)
    (search reads depth 90) tt

-- what is left at two angles differs by the slope, up to this
pub along_slope : (u ax ay other t d angle s c a b l w : ℚ) → IsNear a ax zero_ℚ → IsNear b ay zero_ℚ → a +ℚ b ≤ℚ l →
    IsNear w t (s +ℚ (other -ℚ angle) *ℚ c) → IsNear w d (c -ℚ (other -ℚ angle) *ℚ s) →
    IsNear (l *ℚ w) ((other -ℚ angle) *ℚ rise_at ax ay s c +ℚ (angle +ℚ ay *ℚ c -ℚ ax *ℚ s -ℚ u)) (other +ℚ ay *ℚ d -ℚ ax *ℚ t -ℚ u)
along_slope u ax ay other t d angle s c a b l w of_ax of_ay sizes sines cosines =
    let x = scaled ax of_ax sines in
    let y = scaled ay of_ay cosines in
    let more : NonNeg ((l -ℚ (a +ℚ b)) *ℚ w) = gap sizes ⊗ not_negative (near_positive sines) in
    record {
      above = le_by (u ∷ ax ∷ ay ∷ other ∷ t ∷ d ∷ angle ∷ s ∷ c ∷ a ∷ b ∷ l ∷ w ∷ []) (gap x.above ⊕ gap y.below ⊕ more) (search reads depth 90) tt;
      below = le_by (u ∷ ax ∷ ay ∷ other ∷ t ∷ d ∷ angle ∷ s ∷ c ∷ a ∷ b ∷ l ∷ w ∷ []) (gap x.below ⊕ gap y.above ⊕ more) (search reads depth 90) tt;
    }

pub quotient_times : (q f divisor : ℚ) → Positive divisor → (q +ℚ f /ℚ divisor) *ℚ divisor ≡ q *ℚ divisor +ℚ f
quotient_times q f divisor p =
    ring (q ∷ f ∷ divisor ∷ inverse divisor ∷ []) {y = q *ℚ divisor +ℚ f *ℚ (divisor *ℚ inverse divisor)} (search reads depth 90) tt
    ∙ rw (mul_inverse divisor (not_zero p)) (ring (q ∷ f ∷ divisor ∷ []) (search reads depth 90) tt)

-- where q D + f is at most w in size, and w at most n D, q + f / D is at most n in size
pub quotient_near : (q f divisor n w : ℚ) → Positive divisor → IsNear w (q *ℚ divisor +ℚ f) zero_ℚ → w ≤ℚ n *ℚ divisor → IsNear n (q +ℚ f /ℚ divisor) zero_ℚ
quotient_near q f divisor n w p h k = record {
  above = le_cancel p (rw (quotient_times q f divisor p) (le_by (q ∷ f ∷ divisor ∷ n ∷ w ∷ []) (gap h.above ⊕ gap k) (search reads depth 90) tt));
  below = le_cancel p (rw and_more (le_by (q ∷ f ∷ divisor ∷ n ∷ w ∷ []) (gap h.below ⊕ gap k) (search reads depth 90) tt));
}
  where
    and_more : (q +ℚ f /ℚ divisor +ℚ n) *ℚ divisor ≡ q *ℚ divisor +ℚ f +ℚ n *ℚ divisor
    and_more =
        ring ((q +ℚ f /ℚ divisor) ∷ divisor ∷ n ∷ []) {y = (q +ℚ f /ℚ divisor) *ℚ divisor +ℚ n *ℚ divisor} (search reads depth 90) tt
        ∙ ap (λ t. t +ℚ n *ℚ divisor) (quotient_times q f divisor p)

-- the square of a distance of at most n is at most that of n
pub bend : (root angle l n r : ℚ) → NonNeg l → l ≤ℚ ratio (pos 1) 2 → NonNeg n → n ≤ℚ one_ℚ → IsNear n root angle → ratio (pos 1) 2 *ℚ l *ℚ (n *ℚ n) +ℚ part 48 ≤ℚ r *ℚ (one_ℚ -ℚ l) →
    part 60 +ℚ l *ℚ (ratio (pos 1) 2 *ℚ ((root -ℚ angle) *ℚ (root -ℚ angle)) +ℚ part 54) ≤ℚ r *ℚ ((one_ℚ -ℚ l) *ℚ (one_ℚ -ℚ part 60))
bend root angle l n r sign half sign_n small near enough =
    le_by (root ∷ angle ∷ l ∷ n ∷ r ∷ [])
    (known 1152921504606846975 (2 ^ 60) ⊗ gap enough ⊕ known 1 2 ⊗ l_times (gap near.above ⊗ gap near.below) ⊕ known 1 (2 ^ 54) ⊗ gap half
    ⊕ known 1 (2 ^ 61) ⊗ (gap half ⊕ sign ⊗ gap small ⊗ (known 1 1 ⊕ sign_n)) ⊕ known 1143562461631217663 (2 ^ 108))
    (search reads depth 90) tt
  where
    l_times : {x : ℚ} → NonNeg x → NonNeg (l *ℚ x)
    l_times p = sign ⊗ p

-- the steepness is not 0
pub rise_positive : (ax ay s c a b l : ℚ) → IsNear a ax zero_ℚ → IsNear b ay zero_ℚ → a +ℚ b ≤ℚ l → l ≤ℚ ratio (pos 1) 2 → IsNear (part 60 +ℚ one_ℚ) s zero_ℚ → IsNear (part 60 +ℚ one_ℚ) c zero_ℚ →
    Positive (one_ℚ -ℚ l) → Positive (rise_at ax ay s c)
rise_positive ax ay s c a b l of_ax of_ay sizes half sine cosine below_one =
    let least = positive_product below_one (positive_known 1152921504606846974 (2 ^ 60)) in
    subst Positive (ring (rise_at ax ay s c ∷ l ∷ []) (search reads depth 90) tt) (positive_sum least (gap (steep ax ay s c a b l of_ax of_ay sizes half sine cosine)))

module _ {pi u ax ay root t d angle s c a b l r : ℚ} (h : AreAngles pi u ax ay root t d angle s c a b l r) (half : l ≤ℚ ratio (pos 1) 2) where
  pub rises : Positive (rise_at ax ay s c)
  rises = let n = sine_pairs_are_bounded pi angle s c h.is_pi h.of_angle in rise_positive ax ay s c a b l h.of_ax h.of_ay h.sizes half n.0 n.1 h.below_one

  -- what a step leaves of the way from the angle to the root
  pub rest : {n radius : ℚ} → n ≤ℚ one_ℚ → IsNear n root angle → NonNeg radius → ratio (pos 1) 2 *ℚ l *ℚ (n *ℚ n) +ℚ part 48 ≤ℚ radius *ℚ (one_ℚ -ℚ l) →
      IsNear radius (root -ℚ angle +ℚ (angle +ℚ ay *ℚ c -ℚ ax *ℚ s -ℚ u) /ℚ rise_at ax ay s c) zero_ℚ
  rest {n} {radius} small near sign enough =
      let m = sine_pairs_are_bounded pi angle s c h.is_pi h.of_angle in
      let least = steep ax ay s c a b l h.of_ax h.of_ay h.sizes half m.0 m.1 in
      let pairs = sine_pairs_follow_their_slope pi angle (root -ℚ angle) s c t d h.is_pi (step near small) h.of_angle (subst (λ z. IsSinCos pi z t d) (ring (root ∷ angle ∷ []) (search reads depth 90) tt) h.of_root) in
      let sign_l = not_negative (le_trans (le_by (a ∷ b ∷ []) (not_negative (near_positive h.of_ax) ⊕ not_negative (near_positive h.of_ay)) (search reads depth 90) tt) h.sizes) in
      quotient_near (root -ℚ angle) _ _ radius _ rises
      (near_trans (along_slope u ax ay root t d angle s c a b l _ h.of_ax h.of_ay h.sizes pairs.0 pairs.1) h.solved)
      (le_trans (le_trans (le_by (l ∷ root ∷ angle ∷ []) (known 0 1) (search reads depth 90) tt) (bend root angle l n radius sign_l half (not_negative (near_positive near)) small near enough))
      (le_by (radius ∷ l ∷ rise_at ax ay s c ∷ []) (sign ⊗ gap least) (search reads depth 90) tt))
    where
      step : IsNear n root angle → n ≤ℚ one_ℚ → IsNear one_ℚ (root -ℚ angle) zero_ℚ
      step k e = record {
        above = le_by (root ∷ angle ∷ n ∷ []) (gap k.above ⊕ gap e) (search reads depth 90) tt;
        below = le_by (root ∷ angle ∷ n ∷ []) (gap k.below ⊕ gap e) (search reads depth 90) tt;
      }
