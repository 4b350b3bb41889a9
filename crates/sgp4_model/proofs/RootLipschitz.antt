-- Square roots of numbers that are not small differ by little more than the numbers.
use Rattle.std.proofs.Common.{[], ◌∷◌, ◌^◌, pos, ⊎_elim}
use Rattle.exact.specs.Rational.{ℚ, ◌+ℚ◌, ◌*ℚ◌, ratio, ◌≤ℚ◌}
use Rattle.exact.proofs.RationalRing.{reads}
use Rattle.exact.proofs.Order.{NonNeg, ◌⊕◌, ◌⊗◌, gap, known, le_by, not_negative}
use Rattle.exact.proofs.Bounds.{le_total}
use Rattle.sgp4_model.specs.Angle.{IsNear, part}
use Rattle.sgp4_model.specs.Root.{IsSqrt}
use Rattle.sgp4_model.specs.RootLaws.{SquareRootsAreLipschitz}
use Rattle.sgp4_model.proofs.Near.{near_positive, near_sym}
use Rattle.sgp4_model.proofs.Powers.{le_of_squares}

-- a square root of a number above the square of l, and 2^-60, is at least l
pub root_above : {x r l : ℚ} → l *ℚ l +ℚ part 60 ≤ℚ x → IsSqrt x r → l ≤ℚ r
root_above {x} {r} {l} above root = le_of_squares (not_negative root.root) (le_by (x ∷ r ∷ l ∷ []) (gap above ⊕ gap root.square.below) (search reads depth 90) tt)

one_way : (x y r t d l : ℚ) → NonNeg l → IsNear d x y → IsSqrt x r → IsSqrt y t → l ≤ℚ r → l ≤ℚ t → ratio (pos 2) 1 *ℚ l *ℚ r ≤ℚ ratio (pos 2) 1 *ℚ l *ℚ t +ℚ (d +ℚ part 59)
one_way x y r t d l n near left right below_r below_t = ⊎_elim falls rises (le_total r t)
  where
    falls : r ≤ℚ t → ratio (pos 2) 1 *ℚ l *ℚ r ≤ℚ ratio (pos 2) 1 *ℚ l *ℚ t +ℚ (d +ℚ part 59)
    falls h = le_by (r ∷ t ∷ d ∷ l ∷ []) (known 2 1 ⊗ n ⊗ gap h ⊕ not_negative (near_positive near) ⊕ known 1 (2 ^ 59)) (search reads depth 90) tt

    rises : t ≤ℚ r → ratio (pos 2) 1 *ℚ l *ℚ r ≤ℚ ratio (pos 2) 1 *ℚ l *ℚ t +ℚ (d +ℚ part 59)
    rises h =
        le_by (x ∷ y ∷ r ∷ t ∷ d ∷ l ∷ [])
        ((gap below_r ⊕ gap below_t) ⊗ gap h ⊕ gap near.above ⊕ gap left.square.above ⊕ gap right.square.below)
        (search reads depth 90) tt

pub square_roots_are_lipschitz : SquareRootsAreLipschitz
square_roots_are_lipschitz x y r t d l n above_x above_y near left right =
    let p = root_above above_x left in
    let q = root_above above_y right in
    record {
      above = one_way x y r t d l (not_negative n) near left right p q;
      below = one_way y x t r d l (not_negative n) (near_sym near) right left q p;
    }
