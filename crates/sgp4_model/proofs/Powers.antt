-- Of two numbers the one with the larger square or cube is the larger.
use Rattle.std.proofs.Common.{Bool, true, false, not, [], ◌∷◌, T}
use Rattle.exact.specs.Rational.{ℚ, ◌*ℚ◌, ◌-ℚ◌, at_least_0, ◌≤ℚ◌, ◌<ℚ◌}
use Rattle.exact.proofs.RationalRing.{ring, reads}
use Rattle.exact.proofs.Order.{NonNeg, ◌⊕◌, ◌⊗◌, gap, known, same_sign}
use Rattle.exact.proofs.Strict.{Positive, positive_gap, positive_product, positive_sum, positive_weak, not_both}
use Rattle.exact.proofs.Tests.{by_test}

-- an inequality, or the strict one the other way
pub by_order : {P : Type 0} (x y : ℚ) → (x ≤ℚ y → P) → (y <ℚ x → P) → P
by_order {P} x y f g = by_test (at_least_0 (y -ℚ x)) (λ h. f (record { le = h })) (λ h. g (record { lt = h }))

-- where b is not negative, a number with at most its square is at most b
pub le_of_squares : {a b : ℚ} → NonNeg b → a *ℚ a ≤ℚ b *ℚ b → a ≤ℚ b
le_of_squares {a} {b} n h = by_order a b (λ l. l) (λ l. absurd (far (positive_gap l)))
  where
    far : Positive (a -ℚ b) → ⊥
    far p =
        not_both (positive_sum (positive_product p p) (known 2 1 ⊗ n ⊗ positive_weak p))
        (same_sign (ring (a ∷ b ∷ []) (search reads depth 90) tt) (gap h))

-- where b is not negative, a number with at most its cube is at most b
pub le_of_cubes : {a b : ℚ} → NonNeg b → a *ℚ a *ℚ a ≤ℚ b *ℚ b *ℚ b → a ≤ℚ b
le_of_cubes {a} {b} n h = by_order a b (λ l. l) (λ l. absurd (far (positive_gap l)))
  where
    far : Positive (a -ℚ b) → ⊥
    far p =
        not_both (positive_sum (positive_product (positive_product p p) p) (known 3 1 ⊗ n ⊗ positive_weak p ⊗ (n ⊕ positive_weak p)))
        (same_sign (ring (a ∷ b ∷ []) (search reads depth 90) tt) (gap h))
