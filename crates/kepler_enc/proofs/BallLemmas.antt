-- A root is no farther from an angle than what that angle leaves of the equation, over 1 less the sizes of ax and ay.
use Rattle.std.proofs.Common.{[], ◌∷◌, pos, ◌^◌}
use Rattle.exact.specs.Rational.{ℚ, ◌+ℚ◌, ◌-ℚ◌, ◌*ℚ◌, neg_ℚ, ratio, zero_ℚ, one_ℚ, ◌≤ℚ◌}
use Rattle.exact.proofs.RationalRing.{reads}
use Rattle.exact.proofs.Order.{NonNeg, gap, known, le_by, le_refl, le_trans, not_negative, ◌⊕◌, ◌⊗◌}
use Rattle.exact.proofs.Bounds.{by_sign}
use Rattle.exact.proofs.Strict.{Positive, le_quotient, positive_weak, quotient_le}
use Rattle.sgp4_model.specs.Angle.{IsNear, IsPi, IsSinCos, part}
use Rattle.sgp4_model.specs.PairLaws.{IsModest}
use Rattle.sgp4_model.proofs.Near.{near_positive, near_sym, near_times, near_trans}
use Rattle.sgp4_model.proofs.Lipschitz.{sine_pairs_are_lipschitz}
use Rattle.sgp4_model.proofs.Pythagoras.{sine_pairs_are_bounded}

-- a positive factor may be taken away
pub le_cancel : {a b c : ℚ} → Positive c → a *ℚ c ≤ℚ b *ℚ c → a ≤ℚ b
le_cancel {b = b} {c} p h = le_trans (le_quotient p h) (quotient_le p (le_refl (b *ℚ c)))

-- What is known of the equation at a root and at another angle: ax and ay are at most a and b in size, together at most l,
-- which is below 1; the root with its pair (t, d) solves the equation up to 2^-60, and the angle with its pair (s, c) up to r.
pub record AreAngles (pi u ax ay root t d angle s c a b l r : ℚ) : Type 0 where
  pub is_pi : IsPi pi
  pub of_ax : IsNear a ax zero_ℚ
  pub of_ay : IsNear b ay zero_ℚ
  pub sizes : a +ℚ b ≤ℚ l
  pub below_one : Positive (one_ℚ -ℚ l)
  pub of_root : IsSinCos pi root t d
  pub of_angle : IsSinCos pi angle s c
  pub solved : IsNear (part 60) (root +ℚ ay *ℚ d -ℚ ax *ℚ t -ℚ u) zero_ℚ
  pub left : IsNear r (angle +ℚ ay *ℚ c -ℚ ax *ℚ s -ℚ u) zero_ℚ

-- a factor of at most e in size
pub scaled : {e a b w : ℚ} (t : ℚ) → IsNear e t zero_ℚ → IsNear w a b → IsNear (e *ℚ w) (t *ℚ a) (t *ℚ b)
scaled {e} t h k =
    near_times t
    (le_by (e ∷ t ∷ []) (gap h.below) (search reads depth 90) tt)
    (le_by (e ∷ t ∷ []) (gap h.above) (search reads depth 90) tt) k

-- where the pairs differ by at most w, the angles differ by at most what the equation leaves and l * w
closer : (u ax ay root t d angle s c a b l r w : ℚ) → IsNear a ax zero_ℚ → IsNear b ay zero_ℚ → a +ℚ b ≤ℚ l →
    IsNear (part 60) (root +ℚ ay *ℚ d -ℚ ax *ℚ t -ℚ u) zero_ℚ → IsNear r (angle +ℚ ay *ℚ c -ℚ ax *ℚ s -ℚ u) zero_ℚ →
    IsNear w t s → IsNear w d c → IsNear (part 60 +ℚ r +ℚ l *ℚ w) root angle
closer u ax ay root t d angle s c a b l r w of_ax of_ay sizes solved left sines cosines =
    let x = scaled ax of_ax sines in
    let y = scaled ay of_ay cosines in
    let more : NonNeg ((l -ℚ (a +ℚ b)) *ℚ w) = gap sizes ⊗ not_negative (near_positive sines) in
    record {
      above = le_by (u ∷ ax ∷ ay ∷ root ∷ t ∷ d ∷ angle ∷ s ∷ c ∷ a ∷ b ∷ l ∷ r ∷ w ∷ []) (gap solved.above ⊕ gap left.below ⊕ gap x.above ⊕ gap y.below ⊕ more) (search reads depth 90) tt;
      below = le_by (u ∷ ax ∷ ay ∷ root ∷ t ∷ d ∷ angle ∷ s ∷ c ∷ a ∷ b ∷ l ∷ r ∷ w ∷ []) (gap solved.below ⊕ gap left.above ⊕ gap x.below ⊕ gap y.above ⊕ more) (search reads depth 90) tt;
    }

-- a distance that is at most 2^-60, what is left, and l times itself and 2^-57
within_radius : (q l r radius : ℚ) → Positive (one_ℚ -ℚ l) → r +ℚ part 48 ≤ℚ radius *ℚ (one_ℚ -ℚ l) → q ≤ℚ part 60 +ℚ r +ℚ l *ℚ (q +ℚ part 57) → q ≤ℚ radius
within_radius q l r radius p enough k =
    le_cancel p (le_by (q ∷ l ∷ r ∷ radius ∷ []) (gap enough ⊕ gap k ⊕ known 1 (2 ^ 57) ⊗ positive_weak p ⊕ known 4087 (2 ^ 60)) (search reads depth 90) tt)

module _ {pi u ax ay root t d angle s c a b l r : ℚ} (h : AreAngles pi u ax ay root t d angle s c a b l r) where
  not_far : {w : ℚ} → IsNear w t s → IsNear w d c → IsNear (part 60 +ℚ r +ℚ l *ℚ w) root angle
  not_far {w} sines cosines = closer u ax ay root t d angle s c a b l r w h.of_ax h.of_ay h.sizes h.solved h.left sines cosines

  -- at most this far, whatever the pairs are
  within_two : IsNear (part 60 +ℚ r +ℚ l *ℚ (part 60 +ℚ one_ℚ +ℚ (part 60 +ℚ one_ℚ))) root angle
  within_two =
      let m = sine_pairs_are_bounded pi root t d h.is_pi h.of_root in
      let n = sine_pairs_are_bounded pi angle s c h.is_pi h.of_angle in
      not_far (near_trans m.0 (near_sym n.0)) (near_trans m.1 (near_sym n.1))

  -- the root is modest where the angle lies within 2^16 of 0, and what it leaves too
  pub modest_root : IsNear (ratio (pos 65536) 1) angle zero_ℚ → r ≤ℚ ratio (pos 65536) 1 → IsModest root
  modest_root k m =
      let n = within_two in
      record {
        low = le_by (root ∷ angle ∷ r ∷ l ∷ []) (gap n.below ⊕ gap k.below ⊕ gap m ⊕ known 2 1 ⊗ (known 1 1 ⊕ known 1 (2 ^ 60)) ⊗ positive_weak h.below_one ⊕ known 1057807786319791314173949 (2 ^ 60)) (search reads depth 90) tt;
        high = le_by (root ∷ angle ∷ r ∷ l ∷ []) (gap n.above ⊕ gap k.above ⊕ gap m ⊕ known 2 1 ⊗ (known 1 1 ⊕ known 1 (2 ^ 60)) ⊗ positive_weak h.below_one ⊕ known 1057807786319791314173949 (2 ^ 60)) (search reads depth 90) tt;
      }

  -- within any radius of at least (r + 2^-48) / (1 - l)
  pub ball : {radius : ℚ} → IsModest root → IsModest angle → r +ℚ part 48 ≤ℚ radius *ℚ (one_ℚ -ℚ l) → IsNear radius root angle
  ball {radius} m n enough = by_sign (root -ℚ angle) above below
    where
      far : {q : ℚ} → IsNear q root angle → IsNear (part 60 +ℚ r +ℚ l *ℚ (q +ℚ part 57)) root angle
      far {q} k = let pairs = sine_pairs_are_lipschitz pi pi root angle q t d s c h.is_pi h.is_pi m n k h.of_root h.of_angle in not_far pairs.0 pairs.1

      above : NonNeg (root -ℚ angle) → IsNear radius root angle
      above p =
          let q : IsNear (root -ℚ angle) root angle = record {
            above = le_by (root ∷ angle ∷ []) (known 0 1) (search reads depth 90) tt;
            below = le_by (root ∷ angle ∷ []) (known 2 1 ⊗ p) (search reads depth 90) tt;
          } in
          let k = within_radius (root -ℚ angle) l r radius h.below_one enough (le_by (root ∷ angle ∷ r ∷ l ∷ []) (gap (far q).above) (search reads depth 90) tt) in
          record {
            above = le_by (root ∷ angle ∷ radius ∷ []) (gap k) (search reads depth 90) tt;
            below = le_by (root ∷ angle ∷ radius ∷ []) (gap k ⊕ known 2 1 ⊗ p) (search reads depth 90) tt;
          }

      below : NonNeg (neg_ℚ (root -ℚ angle)) → IsNear radius root angle
      below p =
          let q : IsNear (angle -ℚ root) root angle = record {
            above = le_by (root ∷ angle ∷ []) (known 2 1 ⊗ p) (search reads depth 90) tt;
            below = le_by (root ∷ angle ∷ []) (known 0 1) (search reads depth 90) tt;
          } in
          let k = within_radius (angle -ℚ root) l r radius h.below_one enough (le_by (root ∷ angle ∷ r ∷ l ∷ []) (gap (far q).below) (search reads depth 90) tt) in
          record {
            above = le_by (root ∷ angle ∷ radius ∷ []) (gap k ⊕ known 2 1 ⊗ p) (search reads depth 90) tt;
            below = le_by (root ∷ angle ∷ radius ∷ []) (gap k) (search reads depth 90) tt;
          }
