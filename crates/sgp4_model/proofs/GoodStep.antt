-- One step of the sums keeps bounds and nearness.
use Rattle.std.proofs.Common.{[], ◌∷◌, pos}
use Rattle.exact.specs.Rational.{ℚ, ◌+ℚ◌, ◌-ℚ◌, ◌*ℚ◌, ratio, one_ℚ, zero_ℚ, ◌≤ℚ◌}
use Rattle.exact.proofs.RationalRing.{reads}
use Rattle.exact.proofs.Order.{NonNeg, ◌⊕◌, ◌⊗◌, gap, known, le_by, not_negative}
use Rattle.sgp4_model.specs.Angle.{IsNear}
use Rattle.sgp4_model.proofs.Near.{near_positive}

-- a square of an angle that is at most 0.7854
pub record IsSmall (u : ℚ) : Type 0 where
  pub low : zero_ℚ ≤ℚ u
  pub high : u ≤ℚ ratio (pos 617) 1000

-- a value from 9/10 to 1
pub record IsHigh (p : ℚ) : Type 0 where
  pub low : ratio (pos 9) 10 ≤ℚ p
  pub high : p ≤ℚ one_ℚ

-- an inverse of a divisor that is at least 12
pub record IsTwelfth (r : ℚ) : Type 0 where
  pub low : zero_ℚ ≤ℚ r
  pub high : r ≤ℚ ratio (pos 1) 12

-- one step: 1 less a product by u and by the inverse r of a divisor
abbrev pub step : ℚ → ℚ → ℚ → ℚ
step r u p = one_ℚ -ℚ r *ℚ (u *ℚ p)

-- a step from a high value is high
pub step_high : (r u p : ℚ) → IsTwelfth r → IsSmall u → IsHigh p → IsHigh (step r u p)
step_high r u p d s h =
    record {
      low = le_by (r ∷ u ∷ p ∷ [])
          (gap d.high ⊗ (not_negative s.low ⊗ positive) ⊕ known 1 12 ⊗ (gap s.high ⊗ positive ⊕ known 617 1000 ⊗ gap h.high) ⊕ known 583 12000)
          (search reads depth 90) tt;
      high = le_by (r ∷ u ∷ p ∷ []) (not_negative d.low ⊗ (not_negative s.low ⊗ positive)) (search reads depth 90) tt;
    }
  where
    positive : NonNeg (p -ℚ ratio (pos 9) 10 +ℚ ratio (pos 9) 10)
    positive = gap h.low ⊕ known 9 10

-- a step from two near values gives near values: all distances are scaled by a factor t
pub step_near : (t e r u v p q : ℚ) → IsTwelfth r → IsSmall u → IsSmall v → IsHigh p → IsHigh q →
    IsNear e (t *ℚ u) (t *ℚ v) → IsNear (ratio (pos 1) 10 *ℚ e) (t *ℚ p) (t *ℚ q) →
    IsNear (ratio (pos 1) 10 *ℚ e) (t *ℚ step r u p) (t *ℚ step r v q)
step_near t e r u v p q d s s' h h' near_u near_p =
    record {
      above = le_by (t ∷ e ∷ r ∷ u ∷ v ∷ p ∷ q ∷ [])
          (spare ⊕ not_negative d.low ⊗ (gap near_u.below ⊗ positive ⊕ size ⊗ gap h.high ⊕ (not_negative s'.low ⊗ gap near_p.below ⊕ gap s'.high ⊗ (known 1 10 ⊗ size))))
          (search reads depth 90) tt;
      below = le_by (t ∷ e ∷ r ∷ u ∷ v ∷ p ∷ q ∷ [])
          (spare ⊕ not_negative d.low ⊗ (gap near_u.above ⊗ positive ⊕ size ⊗ gap h.high ⊕ (not_negative s'.low ⊗ gap near_p.above ⊕ gap s'.high ⊗ (known 1 10 ⊗ size))))
          (search reads depth 90) tt;
    }
  where
    size : NonNeg e
    size = not_negative (near_positive near_u)

    positive : NonNeg (p -ℚ ratio (pos 9) 10 +ℚ ratio (pos 9) 10)
    positive = gap h.low ⊕ known 9 10

    -- what is left of e/10 where r is at most 1/12
    spare : NonNeg ((ratio (pos 1) 12 -ℚ r) *ℚ (ratio (pos 10617) 10000 *ℚ e) +ℚ ratio (pos 1383) 120000 *ℚ e)
    spare = gap d.high ⊗ (known 10617 10000 ⊗ size) ⊕ known 1383 120000 ⊗ size
