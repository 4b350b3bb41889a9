-- What the greater and the lesser of two numbers are, and how sums of lists go.
use Rattle.std.proofs.Common.{◌≡◌, true, false, Bool, List, [], ◌∷◌, ◌++◌, T, not, ap, ◌∙◌}
use Rattle.exact.specs.Rational.{ℚ, ◌+ℚ◌, ◌-ℚ◌, ◌≤ℚ◌, neg_ℚ, at_least_0}
use Rattle.exact.specs.Extremes.{larger, lesser, sum_of}
use Rattle.exact.proofs.RationalRing.{ring, reads}
use Rattle.exact.proofs.Order.{NonNeg, le_by, le_of_gap, le_refl, opposite_holds}

-- the answer of a test on the sign, with what the sign says
by_test : (P : ℚ → Type 0) (z x y : ℚ) → (NonNeg z → P x) → (NonNeg (neg_ℚ z) → P y) → P (elim (at_least_0 z) [ true ↦ x | false ↦ y ])
by_test P z x y f g = choose (at_least_0 z) (λ h. f (record { holds = h })) (λ h. g (record { holds = opposite_holds z h }))
  where
    choose : (t : Bool) → (T t → P x) → (T (not t) → P y) → P (elim t [ true ↦ x | false ↦ y ])
    choose true h k = h tt
    choose false h k = k tt

-- it is at least both, and at most what both are at most
pub le_larger : (x y : ℚ) → (x ≤ℚ larger x y) × (y ≤ℚ larger x y)
unfolding larger
le_larger x y =
    by_test (λ t. (x ≤ℚ t) × (y ≤ℚ t)) (x -ℚ y) x y
    (λ n. (le_refl x, le_of_gap n))
    (λ n. (le_by (x ∷ y ∷ []) n (search reads depth 20) tt, le_refl y))

pub larger_le : (x y z : ℚ) → x ≤ℚ z → y ≤ℚ z → larger x y ≤ℚ z
unfolding larger
larger_le x y z h k = by_test (λ t. t ≤ℚ z) (x -ℚ y) x y (λ _. h) (λ _. k)

pub lesser_le : (x y : ℚ) → (lesser x y ≤ℚ x) × (lesser x y ≤ℚ y)
unfolding lesser
lesser_le x y =
    by_test (λ t. (t ≤ℚ x) × (t ≤ℚ y)) (y -ℚ x) x y
    (λ n. (le_refl x, le_of_gap n))
    (λ n. (le_by (x ∷ y ∷ []) n (search reads depth 20) tt, le_refl y))

pub le_lesser : (x y z : ℚ) → z ≤ℚ x → z ≤ℚ y → z ≤ℚ lesser x y
unfolding lesser
le_lesser x y z h k = by_test (λ t. z ≤ℚ t) (y -ℚ x) x y (λ _. h) (λ _. k)

-- the sum of two lists in a row
pub sum_of-append : (xs ys : List ℚ) → sum_of (xs ++ ys) ≡ sum_of xs +ℚ sum_of ys
sum_of-append [] ys = ring (sum_of ys ∷ []) (search reads depth 90) tt
sum_of-append (x ∷ xs) ys = ap (λ t. x +ℚ t) (sum_of-append xs ys) ∙ ring (x ∷ sum_of xs ∷ sum_of ys ∷ []) (search reads depth 90) tt
