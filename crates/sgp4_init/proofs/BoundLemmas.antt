-- How large products are whose factors are bounded: |x| ≤ b is written as a distance from 0.
use Rattle.std.proofs.Common.{[], ◌∷◌, ℕ, suc, pos, negsuc, subst, sym}
use Rattle.exact.specs.Rational.{ℚ, ratio, zero_ℚ, one_ℚ, ◌+ℚ◌, ◌-ℚ◌, ◌*ℚ◌, ◌≤ℚ◌}
use Rattle.exact.proofs.RationalRing.{reads}
use Rattle.exact.proofs.Bounds.{square}
use Rattle.exact.proofs.Integers.{ratio_neg}
use Rattle.exact.specs.Interval.{Inside, between}
use Rattle.exact.proofs.Intervals.{inside}
use Rattle.exact.proofs.Order.{NonNeg, ◌⊕◌, ◌⊗◌, gap, known, le_by, le_refl}
use Rattle.sgp4_model.specs.Angle.{IsNear}
use Rattle.sgp4_model.proofs.Near.{near_weaken}

pub small : {b x : ℚ} → NonNeg x → x ≤ℚ b → IsNear b x zero_ℚ
small {b} {x} n h = record {
  above = le_by (b ∷ x ∷ []) (gap h) (search reads depth 90) tt;
  below = le_by (b ∷ x ∷ []) (n ⊕ (gap h ⊕ n)) (search reads depth 90) tt;
}

pub near_product : {b d x y : ℚ} → IsNear b x zero_ℚ → IsNear d y zero_ℚ → IsNear (b *ℚ d) (x *ℚ y) zero_ℚ
near_product {b} {d} {x} {y} h k = record {
  above = le_by (b ∷ d ∷ x ∷ y ∷ []) (known 1 2 ⊗ (gap h.above ⊗ gap k.below ⊕ gap h.below ⊗ gap k.above)) (search reads depth 90) tt;
  below = le_by (b ∷ d ∷ x ∷ y ∷ []) (known 1 2 ⊗ (gap h.below ⊗ gap k.below ⊕ gap h.above ⊗ gap k.above)) (search reads depth 90) tt;
}

pub near_sum : {b d x y : ℚ} → IsNear b x zero_ℚ → IsNear d y zero_ℚ → IsNear (b +ℚ d) (x +ℚ y) zero_ℚ
near_sum {b} {d} {x} {y} h k = record {
  above = le_by (b ∷ d ∷ x ∷ y ∷ []) (gap h.above ⊕ gap k.above) (search reads depth 90) tt;
  below = le_by (b ∷ d ∷ x ∷ y ∷ []) (gap h.below ⊕ gap k.below) (search reads depth 90) tt;
}

pub near_difference : {b d x y : ℚ} → IsNear b x zero_ℚ → IsNear d y zero_ℚ → IsNear (b +ℚ d) (x -ℚ y) zero_ℚ
near_difference {b} {d} {x} {y} h k = record {
  above = le_by (b ∷ d ∷ x ∷ y ∷ []) (gap h.above ⊕ gap k.below) (search reads depth 90) tt;
  below = le_by (b ∷ d ∷ x ∷ y ∷ []) (gap h.below ⊕ gap k.above) (search reads depth 90) tt;
}

-- as a range
pub range_of : (n d : ℕ) {x : ℚ} → IsNear (ratio (pos (suc n)) d) x zero_ℚ → Inside (between (negsuc n) d (pos (suc n)) d) x
range_of n d {x} h =
    inside (negsuc n) d (pos (suc n)) d
    (subst (λ t. t ≤ℚ x) (sym (ratio_neg (pos (suc n)) d)) (le_by (x ∷ ratio (pos (suc n)) d ∷ []) (gap h.below) (search reads depth 90) tt))
    (le_by (x ∷ ratio (pos (suc n)) d ∷ []) (gap h.above) (search reads depth 90) tt)

-- a weight c under which w weighs at most k: what is at most t times w weighs at most t times k
pub weighed : {c : ℚ} (w : ℚ) {k t x : ℚ} → NonNeg c → c *ℚ w ≤ℚ k → NonNeg t → IsNear (t *ℚ w) x zero_ℚ → IsNear (t *ℚ k) (c *ℚ x) zero_ℚ
weighed {c} w {k} {t} {x} n h m near = record {
  above = le_by (c ∷ w ∷ k ∷ t ∷ x ∷ []) (m ⊗ gap h ⊕ n ⊗ gap near.above) (search reads depth 90) tt;
  below = le_by (c ∷ w ∷ k ∷ t ∷ x ∷ []) (m ⊗ gap h ⊕ n ⊗ gap near.below) (search reads depth 90) tt;
}

-- ---- the brackets, from e of at most 1/5 and x of at least 0
abbrev pub fourth : ℚ → ℚ
fourth x = (one_ℚ +ℚ x) *ℚ (one_ℚ +ℚ x) *ℚ ((one_ℚ +ℚ x) *ℚ (one_ℚ +ℚ x))

module _ (e x : ℚ) (e_low : NonNeg e) (e_high : e ≤ℚ ratio (pos 1) 5) (x_low : NonNeg x) (x_high : x ≤ℚ one_ℚ) where
  abbrev x2 : ℚ
  x2 = x *ℚ x

  abbrev ex : ℚ
  ex = e *ℚ x

  square_low : NonNeg x2
  square_low = x_low ⊗ x_low

  cube_low : NonNeg (x *ℚ x *ℚ x)
  cube_low = x_low ⊗ x_low ⊗ x_low

  fourth_low : NonNeg (x *ℚ x *ℚ (x *ℚ x))
  fourth_low = square_low ⊗ square_low

  pub along_small : IsNear (one_ℚ *ℚ fourth x) (ratio (pos 1) 1 +ℚ ratio (pos 3) 2 *ℚ x2 +ℚ ex *ℚ (ratio (pos 4) 1 +ℚ x2)) zero_ℚ
  along_small = small (known 1 1 ⊕ known 3 2 ⊗ square_low ⊕ e_low ⊗ x_low ⊗ (known 4 1 ⊕ square_low))
      (le_by (e ∷ x ∷ [])
      (gap e_high ⊗ (known 4 1 ⊗ x_low ⊕ cube_low) ⊕ known 16 5 ⊗ x_low ⊕ known 9 2 ⊗ square_low ⊕ known 19 5 ⊗ cube_low ⊕ fourth_low)
      (search reads depth 90) tt)

  pub oblate_small : IsNear (ratio (pos 8) 1 *ℚ fourth x) (ratio (pos 8) 1 +ℚ ratio (pos 3) 1 *ℚ x2 *ℚ (ratio (pos 8) 1 +ℚ x2)) zero_ℚ
  oblate_small = small (known 8 1 ⊕ known 3 1 ⊗ square_low ⊗ (known 8 1 ⊕ square_low))
      (le_by (x ∷ []) (known 32 1 ⊗ x_low ⊕ known 24 1 ⊗ square_low ⊕ known 32 1 ⊗ cube_low ⊕ known 5 1 ⊗ fourth_low) (search reads depth 90) tt)

  pub c5_small : IsNear (one_ℚ *ℚ fourth x) (ratio (pos 1) 1 +ℚ ratio (pos 11) 4 *ℚ (x2 +ℚ ex) +ℚ ex *ℚ x2) zero_ℚ
  c5_small = small (known 1 1 ⊕ known 11 4 ⊗ (square_low ⊕ e_low ⊗ x_low) ⊕ e_low ⊗ x_low ⊗ square_low)
      (le_by (e ∷ x ∷ [])
      (gap e_high ⊗ (known 11 4 ⊗ x_low ⊕ cube_low) ⊕ known 69 20 ⊗ x_low ⊕ known 13 4 ⊗ square_low ⊕ known 19 5 ⊗ cube_low ⊕ fourth_low)
      (search reads depth 90) tt)

  -- the first part of the bracket in C4
  round_low : NonNeg (x *ℚ (ratio (pos 2) 1 +ℚ ratio (pos 1) 2 *ℚ x2) +ℚ e *ℚ (ratio (pos 1) 2 +ℚ x2 +ℚ x2))
  round_low = x_low ⊗ (known 2 1 ⊕ known 1 2 ⊗ square_low) ⊕ e_low ⊗ (known 1 2 ⊕ square_low ⊕ square_low)

  round_small : IsNear (ratio (pos 1) 10 +ℚ ratio (pos 2) 1 *ℚ x +ℚ ratio (pos 2) 5 *ℚ x2 +ℚ ratio (pos 1) 2 *ℚ (x *ℚ x *ℚ x)) (x *ℚ (ratio (pos 2) 1 +ℚ ratio (pos 1) 2 *ℚ x2) +ℚ e *ℚ (ratio (pos 1) 2 +ℚ x2 +ℚ x2)) zero_ℚ
  round_small = small round_low (le_by (e ∷ x ∷ []) (gap e_high ⊗ (known 1 2 ⊕ known 2 1 ⊗ square_low)) (search reads depth 90) tt)

  -- the term that does not turn
  inner_small : IsNear (one_ℚ +ℚ ratio (pos 3) 2 *ℚ x2) (ratio (pos 1) 1 -ℚ (ex +ℚ ex) +ℚ x2 *ℚ (ratio (pos 3) 2 -ℚ ratio (pos 1) 2 *ℚ ex)) zero_ℚ
  inner_small = record {
    above = le_by (e ∷ x ∷ []) (e_low ⊗ (known 2 1 ⊗ x_low ⊕ known 1 2 ⊗ cube_low)) (search reads depth 90) tt;
    below = le_by (e ∷ x ∷ []) (gap e_high ⊗ (known 2 1 ⊗ x_low ⊕ known 1 2 ⊗ cube_low) ⊕ known 2 5 ⊗ gap x_high ⊕ known 8 5 ⊕ square_low ⊗ (known 1 10 ⊗ gap x_high ⊕ known 29 10)) (search reads depth 90) tt;
  }

  -- the term that turns
  swing_small : IsNear (ratio (pos 2) 1 *ℚ x2 +ℚ ratio (pos 1) 5 *ℚ (x +ℚ x *ℚ x *ℚ x)) (x2 +ℚ x2 -ℚ ex *ℚ (ratio (pos 1) 1 +ℚ x2)) zero_ℚ
  swing_small = record {
    above = le_by (e ∷ x ∷ []) (e_low ⊗ (x_low ⊕ cube_low) ⊕ known 1 5 ⊗ (x_low ⊕ cube_low)) (search reads depth 90) tt;
    below = le_by (e ∷ x ∷ []) (gap e_high ⊗ (x_low ⊕ cube_low) ⊕ known 4 1 ⊗ square_low) (search reads depth 90) tt;
  }

  -- the bracket in C4, where the second harmonic's share z and the cosines are bounded
  pub c4_small : (con41 c2 cosine z : ℚ) → IsNear (ratio (pos 20001) 10000) con41 zero_ℚ → IsNear (ratio (pos 10001) 10000) (ratio (pos 1) 1 -ℚ c2) zero_ℚ →
      IsNear (ratio (pos 10001) 10000) cosine zero_ℚ → IsNear (ratio (pos 298) 10000) z zero_ℚ →
      IsNear (ratio (pos 7) 20 *ℚ fourth x)
      (x *ℚ (ratio (pos 2) 1 +ℚ ratio (pos 1) 2 *ℚ x2) +ℚ e *ℚ (ratio (pos 1) 2 +ℚ x2 +ℚ x2)
      -ℚ z *ℚ (ratio (pos 3) 4 *ℚ ((ratio (pos 1) 1 -ℚ c2) *ℚ (x2 +ℚ x2 -ℚ ex *ℚ (ratio (pos 1) 1 +ℚ x2)) *ℚ cosine)
      -ℚ ratio (pos 3) 1 *ℚ (con41 *ℚ (ratio (pos 1) 1 -ℚ (ex +ℚ ex) +ℚ x2 *ℚ (ratio (pos 3) 2 -ℚ ratio (pos 1) 2 *ℚ ex))))) zero_ℚ
  c4_small con41 c2 cosine z of_con41 of_c2 of_cosine of_z =
      near_weaken polynomial
      (near_difference round_small
      (near_product of_z (near_difference (near_product (small (known 3 4) (le_refl _)) (near_product (near_product of_c2 swing_small) of_cosine)) (near_product (small (known 3 1) (le_refl _)) (near_product of_con41 inner_small)))))
    where
      polynomial :
          ratio (pos 1) 10 +ℚ ratio (pos 2) 1 *ℚ x +ℚ ratio (pos 2) 5 *ℚ x2 +ℚ ratio (pos 1) 2 *ℚ (x *ℚ x *ℚ x)
          +ℚ ratio (pos 298) 10000
          *ℚ (ratio (pos 3) 4 *ℚ (ratio (pos 10001) 10000 *ℚ (ratio (pos 2) 1 *ℚ x2 +ℚ ratio (pos 1) 5 *ℚ (x +ℚ x *ℚ x *ℚ x)) *ℚ ratio (pos 10001) 10000)
          +ℚ ratio (pos 3) 1 *ℚ (ratio (pos 20001) 10000 *ℚ (one_ℚ +ℚ ratio (pos 3) 2 *ℚ x2)))
          ≤ℚ ratio (pos 7) 20 *ℚ fourth x
      polynomial = le_by (x ∷ []) (known 6044708940447 4360000000000 ⊗ square (x -ℚ ratio (pos 218) 1000) ⊕ known 36870145051 54500000000000 ⊗ square_low ⊕ known 53037325491277 10000000000000000 ⊕ known 8955291059553 10000000000000 ⊗ cube_low ⊕ known 7 20 ⊗ fourth_low) (search reads depth 90) tt
