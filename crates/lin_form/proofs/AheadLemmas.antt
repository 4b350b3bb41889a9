-- Sizes of what is left of a step.
use Rattle.std.proofs.Common.{◌≡◌, ◌^◌, subst, [], ◌∷◌, pos}
use Rattle.exact.specs.Rational.{ℚ, ◌+ℚ◌, ◌-ℚ◌, ◌*ℚ◌, ratio, zero_ℚ, one_ℚ, ◌≤ℚ◌}
use Rattle.exact.proofs.RationalRing.{reads}
use Rattle.exact.proofs.Order.{NonNeg, ◌⊕◌, ◌⊗◌, gap, known, le_by, not_negative}
use Rattle.exact.proofs.Bounds.{square}
use Rattle.sgp4_model.specs.Angle.{IsNear, part}
use Rattle.sgp4_model.proofs.Near.{near_positive}
use Rattle.lin_form.specs.Bend.{ahead, half_square}

-- a product of numbers that are at most a and b in size
pub product_small : {a b x y : ℚ} →
    IsNear a x zero_ℚ → IsNear b y zero_ℚ → IsNear (a *ℚ b) (x *ℚ y) zero_ℚ
product_small {a} {b} {x} {y} h k = record {
  above = le_by (a ∷ b ∷ x ∷ y ∷ []) (known 1 2 ⊗ (gap h.above ⊗ gap k.below ⊕ gap h.below ⊗ gap k.above))
      (search reads depth 90) tt;
  below = le_by (a ∷ b ∷ x ∷ y ∷ []) (known 1 2 ⊗ (gap h.above ⊗ gap k.above ⊕ gap h.below ⊗ gap k.below))
      (search reads depth 90) tt;
}

-- a cube of at most w cubed
pub cube_le : {p w : ℚ} → zero_ℚ ≤ℚ p → p ≤ℚ w → p *ℚ p *ℚ p ≤ℚ w *ℚ w *ℚ w
cube_le {p} {w} h k =
    le_by (p ∷ w ∷ []) (gap k ⊗ (known 1 2 ⊗ (square p ⊕ square w ⊕ square (p +ℚ w)))) (search reads depth 90) tt

-- the same number, in other words
pub near_same : {e a b : ℚ} (c : ℚ) → b ≡ c → IsNear e a b → IsNear e a c
near_same {e} {a} c i h = subst (λ t. IsNear e a t) i h

-- what two sums without their last terms may differ by
abbrev pub cut_off : ℚ
cut_off = part 58

-- from the slope v, the bend w, what these are off, u and o, and the third slope r
pub near_ahead : {a b : ℚ} (d v w u o r : ℚ) →
    a ≡ ahead d v w +ℚ d *ℚ u -ℚ half_square d *ℚ o +ℚ d *ℚ d *ℚ d *ℚ r →
    IsNear (ratio (pos 1) 6) r zero_ℚ → IsNear (part 63) u zero_ℚ → IsNear (part 58) o zero_ℚ →
    IsNear b d zero_ℚ → b ≤ℚ one_ℚ →
    IsNear (ratio (pos 1) 6 *ℚ (b *ℚ b *ℚ b) +ℚ cut_off) a (ahead d v w)
near_ahead {a} {b} d v w u o r e third first second l m =
    rw e (record {
      above = le_by (b ∷ d ∷ v ∷ w ∷ u ∷ o ∷ r ∷ [])
          (gap cubic.above ⊕ gap slope.above ⊕ known 1 2 ⊗ gap bend.below ⊕ rest) (search reads depth 90) tt;
      below = le_by (b ∷ d ∷ v ∷ w ∷ u ∷ o ∷ r ∷ [])
          (gap cubic.below ⊕ gap slope.below ⊕ known 1 2 ⊗ gap bend.above ⊕ rest) (search reads depth 90) tt;
    })
  where
    cubic : IsNear (b *ℚ b *ℚ b *ℚ ratio (pos 1) 6) (d *ℚ d *ℚ d *ℚ r) zero_ℚ
    cubic = product_small (product_small (product_small l l) l) third

    slope : IsNear (b *ℚ part 63) (d *ℚ u) zero_ℚ
    slope = product_small l first

    bend : IsNear (b *ℚ b *ℚ part 58) (d *ℚ d *ℚ o) zero_ℚ
    bend = product_small (product_small l l) second

    size : NonNeg b
    size = not_negative (near_positive l)

    rest : NonNeg (part 58 -ℚ b *ℚ part 63 -ℚ ratio (pos 1) 2 *ℚ (b *ℚ b *ℚ part 58))
    rest =
        gap (le_by (b ∷ [])
        (gap m ⊗ known 1 (2 ^ 63) ⊕ known 1 (2 ^ 59) ⊗ (gap m ⊗ (size ⊕ known 1 1)) ⊕ known 15 (2 ^ 63))
        (search reads depth 90) tt)
