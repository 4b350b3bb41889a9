-- The equations in the order of the code.
use Rattle.std.proofs.Common.{◌≡◌, ◌∙◌, ap, sym, pos, [], ◌∷◌}
use Rattle.exact.specs.Rational.{ℚ, ◌+ℚ◌, ◌-ℚ◌, ◌*ℚ◌, ◌/ℚ◌, ◌^ℚ◌, inverse, neg_ℚ, one_ℚ, ratio, zero_ℚ}
use Rattle.exact.proofs.RationalRing.{ring, reads}
use Rattle.exact.proofs.Strict.{mul_inverse}
use Rattle.sgp4_model.specs.Numerals.{decimal, whole}
use Rattle.sgp4_model.specs.Wgs72.{j2}
use Rattle.fixed_iv.specs.Arithmetic.{exact}
use Rattle.sgp4_periodic.specs.Lines.{cosine_of_twice, distance, first_coordinate, inclination, inverse_rectum, latitude_change, node, one_and_a_half, rest_of_square, second_coordinate, sine_of_twice}

-- ---- before Kepler's equation
pub rectum_is : (a e : ℚ) → (inverse_rectum exact a e).1 ≡ a *ℚ (one_ℚ -ℚ e ^ℚ 2)
rectum_is a e = ring (a ∷ e ∷ []) (search reads depth 60) tt

pub squares_are : (x y : ℚ) → rest_of_square exact x y ≡ one_ℚ -ℚ (x ^ℚ 2 +ℚ y ^ℚ 2)
squares_are x y = ring (x ∷ y ∷ []) (search reads depth 60) tt

-- ---- the argument of latitude
-- a factor of what may divide may divide
pub factor_divides : (a x : ℚ) → ¬ (a *ℚ x ≡ zero_ℚ) → ¬ (x ≡ zero_ℚ)
factor_divides a x f e = f (ap (λ z. a *ℚ z) e ∙ ring (a ∷ []) (search reads depth 60) tt)

other_divides : (a x : ℚ) → ¬ (a *ℚ x ≡ zero_ℚ) → ¬ (a ≡ zero_ℚ)
other_divides a x f e = f (ap (λ z. z *ℚ x) e ∙ ring (x ∷ []) (search reads depth 60) tt)

-- a / (a x) is 1 / x
over_product : (a x : ℚ) → ¬ (a *ℚ x ≡ zero_ℚ) → inverse x ≡ a /ℚ (a *ℚ x)
over_product a x f =
    ring (inverse x ∷ []) {y = one_ℚ *ℚ inverse x} (search reads depth 60) tt
    ∙ ap (λ z. z *ℚ inverse x) (sym (mul_inverse (a *ℚ x) f))
    ∙ ring (a ∷ x ∷ inverse x ∷ inverse (a *ℚ x) ∷ []) {y = x *ℚ inverse x *ℚ (a /ℚ (a *ℚ x))} (search reads depth 60) tt
    ∙ ap (λ z. z *ℚ (a /ℚ (a *ℚ x))) (mul_inverse x (factor_divides a x f))
    ∙ ring (a ∷ inverse (a *ℚ x) ∷ []) (search reads depth 60) tt

-- over the distance over the semimajor axis, and times the semimajor axis over the distance
pub over_near : (a near rl z w : ℚ) → rl ≡ a *ℚ near → ¬ (rl ≡ zero_ℚ) → z ≡ w → z /ℚ near ≡ a /ℚ rl *ℚ w
over_near a near rl z w e f g =
    ap (λ t. z *ℚ t) (over_product a near (λ t. f (e ∙ t)))
    ∙ ap (λ t. z *ℚ (a /ℚ t)) (sym e)
    ∙ ap (λ t. t *ℚ (a /ℚ rl)) g
    ∙ ring (w ∷ a ∷ inverse rl ∷ []) (search reads depth 60) tt

pub sine_is : (s ay ax es d : ℚ) → s -ℚ ay -ℚ ax *ℚ (es /ℚ d) ≡ s -ℚ ay -ℚ ax *ℚ es /ℚ d
sine_is s ay ax es d = ring (s ∷ ay ∷ ax ∷ es ∷ inverse d ∷ []) (search reads depth 60) tt

pub cosine_is : (s ay ax es d : ℚ) → s -ℚ ax +ℚ ay *ℚ (es /ℚ d) ≡ s -ℚ ax +ℚ ay *ℚ es /ℚ d
cosine_is s ay ax es d = ring (s ∷ ay ∷ ax ∷ es ∷ inverse d ∷ []) (search reads depth 60) tt

pub sine_of_twice_is : (s c : ℚ) → sine_of_twice exact s c ≡ whole 2 *ℚ s *ℚ c
sine_of_twice_is s c = ring (s ∷ c ∷ []) (search reads depth 60) tt

pub cosine_of_twice_is : (s : ℚ) → cosine_of_twice exact s ≡ one_ℚ -ℚ whole 2 *ℚ s ^ℚ 2
cosine_of_twice_is s = ring (s ∷ []) (search reads depth 60) tt

-- ---- the short-period corrections
pub half_of_j2_is : ratio (pos 541308) 1000000000 ≡ decimal 5 1 *ℚ j2
half_of_j2_is = ring [] (search reads depth 60) tt

pub distance_is : (rl k1 k2 b con41 c c2 : ℚ) →
    distance exact rl k1 (one_and_a_half exact k2) b con41 c c2 ≡
    rl *ℚ (one_ℚ -ℚ decimal 15 1 *ℚ k2 *ℚ b *ℚ con41) +ℚ decimal 5 1 *ℚ k1 *ℚ (one_ℚ -ℚ c ^ℚ 2) *ℚ c2
distance_is rl k1 k2 b con41 c c2 = ring (rl ∷ k1 ∷ k2 ∷ b ∷ con41 ∷ c ∷ c2 ∷ []) (search reads depth 90) tt

pub change_is : (k2 c s2 : ℚ) →
    latitude_change exact k2 c s2 ≡ neg_ℚ (decimal 25 2) *ℚ k2 *ℚ (whole 7 *ℚ c ^ℚ 2 -ℚ one_ℚ) *ℚ s2
change_is k2 c s2 = ring (k2 ∷ c ∷ s2 ∷ []) (search reads depth 60) tt

pub node_is : (om k2 c s2 : ℚ) → node exact om (one_and_a_half exact k2) c s2 ≡ om +ℚ decimal 15 1 *ℚ k2 *ℚ c *ℚ s2
node_is om k2 c s2 = ring (om ∷ k2 ∷ c ∷ s2 ∷ []) (search reads depth 60) tt

pub inclination_is : (i k2 c si c2 : ℚ) →
    inclination exact i (one_and_a_half exact k2) c si c2 ≡ i +ℚ decimal 15 1 *ℚ k2 *ℚ c *ℚ si *ℚ c2
inclination_is i k2 c si c2 = ring (i ∷ k2 ∷ c ∷ si ∷ c2 ∷ []) (search reads depth 60) tt

-- ---- the axes
pub first_is : (r s c t sw cw : ℚ) → first_coordinate exact r s c (t *ℚ sw) cw ≡ r *ℚ (neg_ℚ s *ℚ t *ℚ sw +ℚ c *ℚ cw)
first_is r s c t sw cw = ring (r ∷ s ∷ c ∷ t ∷ sw ∷ cw ∷ []) (search reads depth 60) tt

pub second_is : (r s c t sw cw : ℚ) → second_coordinate exact r s c (t *ℚ sw) cw ≡ r *ℚ (c *ℚ t *ℚ sw +ℚ s *ℚ cw)
second_is r s c t sw cw = ring (r ∷ s ∷ c ∷ t ∷ sw ∷ cw ∷ []) (search reads depth 60) tt
