-- One step of a sum: what rounding does to it.
use Rattle.std.proofs.Common.{◌≡◌, arith, ap, ◌∙◌, sym, ℕ, zero, suc, ◌≤◌, ◌*◌, ◌-◌, ◌/◌, [], ◌∷◌, pos, ◌+ℤ◌}
use Rattle.std.proofs.lemmas.Int.{ints}
use native.Mathlib.Nat.{div-le_self}
use Rattle.exact.specs.Rational.{ℚ, of_int, ratio, ◌+ℚ◌, ◌-ℚ◌, ◌*ℚ◌, one_ℚ, zero_ℚ, ◌≤ℚ◌}
use Rattle.exact.proofs.RationalRing.{ring, reads}
use Rattle.exact.proofs.Order.{NonNeg, gap, known, le_by, not_negative, ◌⊕◌, ◌⊗◌}
use Rattle.exact.proofs.Integers.{of_int_add, of_int_mul, of_int_is, of_int_le}
use Rattle.sgp4_model.specs.Angle.{IsNear}
use Rattle.trig_enc.specs.Coded.{IsCoded, IsCodedSquare, coded}
use Rattle.trig_enc.proofs.Rounding.{div_under, div_over, natural, at_most_half, le_same}

abbrev one : ℕ
one = 4611686018427387904

-- over the rationals: w = 2^62 - z, where z is q t and q is uh ph / 2^62, both rounded down
over_rationals : (w z q uh ph t u p : ℚ) → w ≤ℚ ratio (pos one) 1 -ℚ z → ratio (pos one) 1 -ℚ z ≤ℚ w →
    z ≤ℚ q *ℚ t → q *ℚ t ≤ℚ z +ℚ one_ℚ →
    q ≤ℚ uh *ℚ ph *ℚ ratio (pos 1) one → uh *ℚ ph *ℚ ratio (pos 1) one ≤ℚ q +ℚ one_ℚ →
    NonNeg t → t ≤ℚ ratio (pos 1) 2 → NonNeg ph → ph ≤ℚ ratio (pos one) 1 →
    zero_ℚ ≤ℚ u → u ≤ℚ ratio (pos 617) 1000 → uh ≤ℚ coded u → coded u ≤ℚ uh +ℚ one_ℚ →
    IsNear (ratio (pos 3) 1) ph (coded p) → IsNear (ratio (pos 3) 1) w (coded (one_ℚ -ℚ t *ℚ (u *ℚ p)))
over_rationals w z q uh ph t u p we ew zl zh ql qh tl th pl ph_high ul uh_high under over near =
    record {
      above =
          le_by (w ∷ z ∷ q ∷ uh ∷ ph ∷ t ∷ u ∷ p ∷ [])
          (gap we ⊕ gap zh ⊕ tl ⊗ gap qh ⊕ known 1 one ⊗ (tl ⊗ pl) ⊗ gap over ⊕ tl ⊗ not_negative ul ⊗ gap near.below
          ⊕ known 1 one ⊗ tl ⊗ gap ph_high ⊕ known 3 1 ⊗ tl ⊗ gap uh_high ⊕ known 3851 1000 ⊗ gap th ⊕ known 149 2000)
          (search reads depth 90) tt;
      below =
          le_by (w ∷ z ∷ q ∷ uh ∷ ph ∷ t ∷ u ∷ p ∷ [])
          (gap ew ⊕ gap zl ⊕ tl ⊗ gap ql ⊕ known 1 one ⊗ (tl ⊗ pl) ⊗ gap under ⊕ tl ⊗ not_negative ul ⊗ gap near.above
          ⊕ known 3 1 ⊗ tl ⊗ gap uh_high ⊕ known 1851 1000 ⊗ gap th ⊕ known 4149 2000)
          (search reads depth 90) tt;
    }

-- what is left of 2^62
rest_is : (z : ℕ) → z ≤ one → of_int (pos (one - z)) ≡ ratio (pos one) 1 -ℚ of_int (pos z)
rest_is z h =
    ring (of_int (pos (one - z)) ∷ of_int (pos z) ∷ []) {y = (of_int (pos (one - z)) +ℚ of_int (pos z)) -ℚ of_int (pos z)} (search reads depth 90) tt
    ∙ ap (λ t. t -ℚ of_int (pos z)) (sym (of_int_add (pos (one - z)) (pos z)) ∙ ap of_int whole ∙ of_int_is (pos one))
  where
    whole : pos (one - z) +ℤ pos z ≡ pos one
    whole = omega (arith, ints, h)

-- the product of two natural numbers, rounded down
pub product_under : (a b : ℕ) → of_int (pos (a * b / one)) ≤ℚ of_int (pos a) *ℚ of_int (pos b) *ℚ ratio (pos 1) one
product_under a b = rw (← of_int_mul (pos a) (pos b)) (div_under (a * b) 4611686018427387903)

pub product_over : (a b : ℕ) → of_int (pos a) *ℚ of_int (pos b) *ℚ ratio (pos 1) one ≤ℚ of_int (pos (a * b / one)) +ℚ one_ℚ
product_over a b = rw (← of_int_mul (pos a) (pos b)) (div_over (a * b) 4611686018427387903)

-- a step of the code is one of the sum
pub step_coded : (square rest divisor : ℕ) → rest ≤ one → 2 ≤ divisor → square * rest / one ≤ one → square * rest / one / divisor ≤ one → (u p : ℚ) →
    IsCodedSquare square u → IsCoded rest p → IsCoded (one - square * rest / one / divisor) (one_ℚ -ℚ ratio (pos 1) divisor *ℚ (u *ℚ p))
step_coded square rest zero h two size less u p s r = absurd (none two)
  where
    none : 2 ≤ 0 → ⊥
    none h = omega (arith, h)
step_coded square rest (suc d) h two size less u p s r =
    record {
      low = le_by (t ∷ u ∷ p ∷ []) (known 1 (suc d) ⊗ not_negative s.low ⊗ gap r.high ⊕ known 1 (suc d) ⊗ gap s.high ⊕ known 617 1000 ⊗ gap (at_most_half d two) ⊕ known 6915 10000) (search reads depth 90) tt;
      high = le_by (t ∷ u ∷ p ∷ []) (known 1 (suc d) ⊗ (not_negative s.low ⊗ not_negative r.low)) (search reads depth 90) tt;
      near =
          over_rationals _ (of_int (pos (square * rest / one / suc d))) (of_int (pos (square * rest / one))) (of_int (pos square)) (of_int (pos rest)) t u p
          (le_same e) (le_same (sym e)) (div_under _ d) (div_over _ d) (product_under square rest) (product_over square rest)
          (known 1 (suc d)) (at_most_half d two) (natural rest) (rw (← of_int_is (pos one)) (of_int_le (omega (arith, ints, h))))
          s.low s.high s.under s.over r.near;
    }
  where
    t : ℚ
    t = ratio (pos 1) (suc d)

    e : of_int (pos (one - square * rest / one / suc d)) ≡ ratio (pos one) 1 -ℚ of_int (pos (square * rest / one / suc d))
    e = rest_is _ less

-- the same, of the product that the code has
pub step_result : (square rest divisor q : ℕ) → rest ≤ one → 2 ≤ divisor → q ≡ square * rest / one → q ≤ one → (u p : ℚ) →
    IsCodedSquare square u → IsCoded rest p → IsCoded (one - q / divisor) (one_ℚ -ℚ ratio (pos 1) divisor *ℚ (u *ℚ p))
step_result square rest divisor q h two e size u p s r =
    rw e (step_coded square rest divisor h two (rw e at size) (less (square * rest / one) (rw e at size)) u p s r)
  where
    less : (n : ℕ) → n ≤ one → n / divisor ≤ one
    less n h = omega (arith, div-le_self n divisor, h)
