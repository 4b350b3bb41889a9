-- Equations over ℚ from known ones, and quotients.
use Rattle.std.proofs.Common.{◌≡◌, refl, ap, ◌∙◌, subst, List, [], ◌∷◌, pos, ◌^◌}
use Rattle.algebra.proofs.Polynomials.{Same}
use Rattle.exact.specs.Rational.{ℚ, ratio, inverse, ◌+ℚ◌, ◌-ℚ◌, ◌*ℚ◌, one_ℚ, zero_ℚ, ◌≤ℚ◌}
use Rattle.exact.proofs.RationalRing.{Sides, rational_coefs, ring, reads}
use Rattle.exact.proofs.Order.{gap}
use Rattle.exact.proofs.Strict.{Positive, mul_inverse, positive_sum}
use Rattle.sgp4_motion.proofs.InputLemmas.{inverse_is}
use Rattle.sgp4_model.specs.Wgs72.{earth_radius_km, j2}

-- a multiple of the difference of two equal numbers is 0
pub none : {p q : ℚ} → p ≡ q → (c : ℚ) → c *ℚ (p -ℚ q) ≡ zero_ℚ
none {p} {q} e c = ap (λ t. c *ℚ (t -ℚ q)) e ∙ ring (c ∷ q ∷ []) (search reads depth 90) tt

infixl 6 ◌⊞◌
pub ◌⊞◌ : {x y : ℚ} → x ≡ zero_ℚ → y ≡ zero_ℚ → x +ℚ y ≡ zero_ℚ
◌⊞◌ {x} {y} e f = ap (λ t. t +ℚ y) e ∙ ap (λ t. zero_ℚ +ℚ t) f ∙ ring [] (search reads depth 90) tt

-- x is y, where x - y is a sum of numbers that are 0. The last argument is `tt`.
pub equal_by : (xs : List ℚ) {x y s : ℚ} → s ≡ zero_ℚ → (r : Sides xs (x -ℚ y) s) → Same rational_coefs r.left.poly r.right.poly → x ≡ y
equal_by xs {x} {y} {s} e r t =
    ring (x ∷ y ∷ []) {y = x -ℚ y +ℚ y} (search reads depth 90) tt
    ∙ ap (λ t. t +ℚ y) (ring xs r t ∙ e)
    ∙ ring (y ∷ []) (search reads depth 90) tt

-- what is at least a positive number is positive
pub positive_from : {l x : ℚ} → Positive l → l ≤ℚ x → Positive x
positive_from {l} {x} p h = subst Positive (ring (x ∷ l ∷ []) {x = l +ℚ (x -ℚ l)} {y = x} (search reads depth 90) tt) (positive_sum p (gap h))

pub inverse_product : {x y : ℚ} → ¬ (x ≡ zero_ℚ) → ¬ (y ≡ zero_ℚ) → ¬ (x *ℚ y ≡ zero_ℚ) → inverse (x *ℚ y) ≡ inverse x *ℚ inverse y
inverse_product {x} {y} h k n = inverse_is n (equal_by (x ∷ y ∷ inverse x ∷ inverse y ∷ []) (none (mul_inverse x h) (y *ℚ inverse y) ⊞ none (mul_inverse y k) one_ℚ) (search reads depth 90) tt)

-- a product that is not 0 has factors that are not
pub left_factor : {x : ℚ} (y : ℚ) → ¬ (x *ℚ y ≡ zero_ℚ) → ¬ (x ≡ zero_ℚ)
left_factor {x} y n e = n (ap (λ t. t *ℚ y) e ∙ ring (y ∷ []) (search reads depth 90) tt)

pub right_factor : (x : ℚ) {y : ℚ} → ¬ (x *ℚ y ≡ zero_ℚ) → ¬ (y ≡ zero_ℚ)
right_factor x {y} n e = n (ap (λ t. x *ℚ t) e ∙ ring (x ∷ []) (search reads depth 90) tt)

-- ---- the constants that divide
pub radius_inverse : inverse earth_radius_km ≡ ratio (pos 1000) 6378135
unfolding inverse ratio
radius_inverse = refl

pub j2_inverse : inverse j2 ≡ ratio (pos (10 ^ 9)) 1082616
unfolding inverse ratio
j2_inverse = refl
