-- A quotient is one number.
use Rattle.std.specs.Prelude.{◌≡◌}
use Rattle.std.proofs.Common.{sym, ap, ◌∙◌}
use Rattle.exact.specs.Rational.{ℚ, ◌*ℚ◌, inverse, zero_ℚ, one_ℚ}
use Rattle.exact.proofs.Strict.{mul_inverse}
use Rattle.exact.proofs.RationalRing.{ring, reads}
use Rattle.std.specs.Prelude.{[], ◌∷◌}
use Rattle.sgp4_model.specs.Quotient.{IsQuotient}

-- z is z y (1 / y)
back : (y z : ℚ) → ¬ (y ≡ zero_ℚ) → z ≡ (z *ℚ y) *ℚ inverse y
back y z h =
    ring (z ∷ []) {y = z *ℚ one_ℚ} (search reads depth 90) tt
    ∙ ap (λ t. z *ℚ t) (sym (mul_inverse y h))
    ∙ ring (y ∷ z ∷ inverse y ∷ []) (search reads depth 90) tt

pub quotient_is_unique : (x y z w : ℚ) → IsQuotient x y z → IsQuotient x y w → z ≡ w
quotient_is_unique x y z w p q =
    back y z p.divisor ∙ ap (λ t. t *ℚ inverse y) (p.is ∙ sym q.is) ∙ sym (back y w p.divisor)
