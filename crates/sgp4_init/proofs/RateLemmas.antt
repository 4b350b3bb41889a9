-- The rates, in the order in which the code forms them.
use Rattle.std.proofs.Common.{◌≡◌, sym, ap, ◌∙◌, [], ◌∷◌, pos, negsuc}
use Rattle.exact.specs.Rational.{ℚ, ratio, inverse, ◌+ℚ◌, ◌-ℚ◌, ◌*ℚ◌, ◌/ℚ◌, ◌^ℚ◌, neg_ℚ, one_ℚ}
use Rattle.exact.proofs.RationalRing.{ring, reads}
use Rattle.exact.proofs.Strict.{mul_inverse}
use Rattle.sgp4_model.specs.MeanMotion.{MotionRecord}
use Rattle.sgp4_model.specs.Numerals.{decimal}
use Rattle.sgp4_model.specs.Rates.{RatesRecord, IsMeanAnomalyRate, IsNodeRate, IsOblatenessFactors, IsPerigeeRate}
use Rattle.sgp4_model.specs.Wgs72.{j2, j4}
use Rattle.sgp4_shape.specs.Covering.{unit_minutes}
use Rattle.sgp4_motion.proofs.InputLemmas.{inverse_is}
use Rattle.sgp4_init.proofs.EquationLemmas.{equal_by, none}

module _ (m : MotionRecord) (f : RatesRecord) where
  abbrev u : ℚ
  u = unit_minutes 1

  square_is : m.p *ℚ m.p ≡ m.p ^ℚ 2
  square_is = ring (m.p ∷ []) (search reads depth 90) tt

  -- 1 over the square of p
  pub ip2_is : ratio (pos 1) 1 /ℚ (m.p *ℚ m.p) ≡ inverse (m.p ^ℚ 2)
  ip2_is = ring (inverse (m.p *ℚ m.p) ∷ []) (search reads depth 90) tt ∙ ap inverse square_is

  pub square_divides : IsOblatenessFactors m f → ¬ (m.p *ℚ m.p ≡ ratio (pos 0) 1)
  square_divides i e = i.p2_divides (sym square_is ∙ e)

  pub w1_is : IsOblatenessFactors m f → ratio (pos 1623924) 1000000000 *ℚ (u *ℚ m.n0) *ℚ inverse (m.p ^ℚ 2) ≡ u *ℚ f.w1
  w1_is i =
      ring (m.n0 ∷ inverse (m.p ^ℚ 2) ∷ []) {y = u *ℚ (decimal 15 1 *ℚ j2 *ℚ m.n0 *ℚ inverse (m.p ^ℚ 2))} (search reads depth 90) tt
      ∙ ap (λ t. u *ℚ t) (sym i.w1_is)

  pub w2_is : IsOblatenessFactors m f → ratio (pos 541308) 1000000000 *ℚ (u *ℚ f.w1) *ℚ inverse (m.p ^ℚ 2) ≡ u *ℚ f.w2
  w2_is i =
      ring (f.w1 ∷ inverse (m.p ^ℚ 2) ∷ []) {y = u *ℚ (decimal 5 1 *ℚ f.w1 *ℚ j2 *ℚ inverse (m.p ^ℚ 2))} (search reads depth 90) tt
      ∙ ap (λ t. u *ℚ t) (sym i.w2_is)

  pub w3_is : IsOblatenessFactors m f → ratio (pos 2483955) 3200000000000 *ℚ (u *ℚ m.n0) *ℚ inverse (m.p ^ℚ 2) *ℚ inverse (m.p ^ℚ 2) ≡ u *ℚ f.w3
  w3_is i =
      ring (m.n0 ∷ inverse (m.p ^ℚ 2) ∷ []) {y = u *ℚ (neg_ℚ (decimal 46875 5) *ℚ j4 *ℚ m.n0 *ℚ (inverse (m.p ^ℚ 2) *ℚ inverse (m.p ^ℚ 2)))} (search reads depth 90) tt
      ∙ ap (λ t. u *ℚ (neg_ℚ (decimal 46875 5) *ℚ j4 *ℚ m.n0 *ℚ t)) (sym fourth)
      ∙ ap (λ t. u *ℚ t) (sym i.w3_is)
    where
      fourth : inverse (m.p ^ℚ 4) ≡ inverse (m.p ^ℚ 2) *ℚ inverse (m.p ^ℚ 2)
      fourth = inverse_is i.p4_divides
          (equal_by (m.p ∷ inverse (m.p ^ℚ 2) ∷ []) (none (mul_inverse (m.p ^ℚ 2) i.p2_divides) (m.p ^ℚ 2 *ℚ inverse (m.p ^ℚ 2) +ℚ one_ℚ)) (search reads depth 90) tt)

  abbrev c2 : ℚ
  c2 = m.c *ℚ m.c

  -- a polynomial in the square of the cosine of the inclination
  abbrev in_squares : ℚ → ℚ → ℚ → ℚ
  in_squares constant square fourth = constant -ℚ square *ℚ c2 +ℚ fourth *ℚ (c2 *ℚ c2)

  pub mdot_is : IsMeanAnomalyRate m f →
      u *ℚ m.n0 +ℚ ratio (pos 1) 2 *ℚ (u *ℚ f.w1) *ℚ m.b0 *ℚ m.con41
      +ℚ ratio (pos 1) 16 *ℚ (u *ℚ f.w2) *ℚ m.b0 *ℚ in_squares (ratio (pos 13) 1) (ratio (pos 78) 1) (ratio (pos 137) 1) ≡ u *ℚ f.mdot
  mdot_is i = ring (m.n0 ∷ m.c ∷ m.b0 ∷ m.con41 ∷ f.w1 ∷ f.w2 ∷ []) (search reads depth 200) tt ∙ ap (λ t. u *ℚ t) (sym i.mdot_is)

  pub wdot_is : IsPerigeeRate m f →
      ratio (negsuc 0) 2 *ℚ (u *ℚ f.w1) *ℚ m.con42 +ℚ ratio (pos 1) 16 *ℚ (u *ℚ f.w2) *ℚ in_squares (ratio (pos 7) 1) (ratio (pos 114) 1) (ratio (pos 395) 1)
      +ℚ u *ℚ f.w3 *ℚ in_squares (ratio (pos 3) 1) (ratio (pos 36) 1) (ratio (pos 49) 1) ≡ u *ℚ f.wdot
  wdot_is i = ring (m.c ∷ m.con42 ∷ f.w1 ∷ f.w2 ∷ f.w3 ∷ []) (search reads depth 200) tt ∙ ap (λ t. u *ℚ t) (sym i.wdot_is)

  pub odot_is : IsNodeRate m f →
      (ratio (pos 1) 2 *ℚ (u *ℚ f.w2) *ℚ (ratio (pos 4) 1 -ℚ ratio (pos 19) 1 *ℚ c2)
      +ℚ (u *ℚ f.w3 +ℚ u *ℚ f.w3) *ℚ (ratio (pos 3) 1 -ℚ ratio (pos 7) 1 *ℚ c2)) *ℚ m.c -ℚ u *ℚ f.w1 *ℚ m.c ≡ u *ℚ f.odot
  odot_is i = ring (m.c ∷ f.w1 ∷ f.w2 ∷ f.w3 ∷ []) (search reads depth 200) tt ∙ ap (λ t. u *ℚ t) (sym i.odot_is)
