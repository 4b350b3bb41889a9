-- The drag coefficients, in the order in which the code forms them.
use Rattle.std.proofs.Common.{◌≡◌, sym, ap, ◌∙◌, [], ◌∷◌, pos}
use Rattle.exact.specs.Rational.{ℚ, ratio, inverse, ◌+ℚ◌, ◌-ℚ◌, ◌*ℚ◌, ◌/ℚ◌, ◌^ℚ◌, neg_ℚ, one_ℚ}
use Rattle.exact.proofs.RationalRing.{ring, reads}
use Rattle.sgp4_model.specs.Density.{DensityRecord}
use Rattle.sgp4_model.specs.Drag.{DragRecord, IsDragCoefficient, IsEccentricityDragCoefficient, IsPeriodicEccentricityDragCoefficient}
use Rattle.sgp4_model.specs.MeanMotion.{IsFullMotion, MotionRecord}
use Rattle.sgp4_model.specs.Numerals.{whole, decimal}
use Rattle.sgp4_model.specs.Wgs72.{j2}
use Rattle.sgp4_shape.specs.Covering.{unit_minutes}
use Rattle.sgp4_init.proofs.EquationLemmas.{inverse_product, left_factor, right_factor}

module _ (m : MotionRecord) (d : DensityRecord) (g : DragRecord) where
  abbrev et2 : ℚ
  et2 = d.eta *ℚ d.eta

  abbrev eeta : ℚ
  eeta = m.e *ℚ d.eta

  -- the bracket in C2
  abbrev pub of_c2 : ℚ
  of_c2 =
      m.a *ℚ (ratio (pos 1) 1 +ℚ ratio (pos 3) 2 *ℚ et2 +ℚ eeta *ℚ (ratio (pos 4) 1 +ℚ et2))
      +ℚ ratio (pos 405981) 1000000000 *ℚ (d.xi /ℚ d.psi) *ℚ m.con41 *ℚ (ratio (pos 8) 1 +ℚ ratio (pos 3) 1 *ℚ et2 *ℚ (ratio (pos 8) 1 +ℚ et2))

  pub c1_is : (b : ℚ) → IsDragCoefficient m d g b → b *ℚ (d.coef1 *ℚ (unit_minutes 1 *ℚ m.n0) *ℚ of_c2) ≡ unit_minutes 1 *ℚ g.c1
  c1_is b i =
      ring (b ∷ d.coef1 ∷ m.n0 ∷ m.a ∷ m.e ∷ m.con41 ∷ d.eta ∷ d.xi ∷ inverse d.psi ∷ []) {y = unit_minutes 1 *ℚ (b *ℚ c2)} (search reads depth 200) tt
      ∙ ap (λ t. unit_minutes 1 *ℚ (b *ℚ t)) (sym i.c2_is)
      ∙ ap (λ t. unit_minutes 1 *ℚ t) (sym i.c1_is)
    where
      c2 : ℚ
      c2 =
          d.coef1 *ℚ m.n0
          *ℚ (
          m.a *ℚ (one_ℚ +ℚ decimal 15 1 *ℚ d.eta ^ℚ 2 +ℚ m.e *ℚ d.eta *ℚ (whole 4 +ℚ d.eta ^ℚ 2))
          +ℚ decimal 375 3 *ℚ j2 *ℚ d.xi /ℚ d.psi *ℚ m.con41 *ℚ (whole 8 +ℚ whole 3 *ℚ d.eta ^ℚ 2 *ℚ (whole 8 +ℚ d.eta ^ℚ 2))
          )

  -- the terms in the bracket of C4
  abbrev round : ℚ
  round = d.eta *ℚ (ratio (pos 2) 1 +ℚ ratio (pos 1) 2 *ℚ et2) +ℚ m.e *ℚ (ratio (pos 1) 2 +ℚ et2 +ℚ et2)

  abbrev steady : ℚ
  steady = m.con41 *ℚ (ratio (pos 1) 1 -ℚ (eeta +ℚ eeta) +ℚ et2 *ℚ (ratio (pos 3) 2 -ℚ ratio (pos 1) 2 *ℚ eeta))

  abbrev turning : ℚ → ℚ
  turning cosine = (ratio (pos 1) 1 -ℚ m.c *ℚ m.c) *ℚ (et2 +ℚ et2 -ℚ eeta *ℚ (ratio (pos 1) 1 +ℚ et2)) *ℚ cosine

  abbrev shape : ℚ → ℚ
  shape cosine = ratio (pos 3) 4 *ℚ turning cosine -ℚ ratio (pos 3) 1 *ℚ steady

  abbrev pub of_c4 : ℚ → ℚ
  of_c4 cosine = round -ℚ ratio (pos 1082616) 1000000000 *ℚ (d.xi /ℚ d.psi) /ℚ m.a *ℚ shape cosine

  -- the same terms as the definition writes them
  abbrev first : ℚ
  first = d.eta *ℚ (whole 2 +ℚ decimal 5 1 *ℚ d.eta ^ℚ 2) +ℚ m.e *ℚ (decimal 5 1 +ℚ whole 2 *ℚ d.eta ^ℚ 2)

  abbrev second : ℚ → ℚ
  second cosine =
      neg_ℚ (whole 3) *ℚ m.con41 *ℚ (one_ℚ -ℚ whole 2 *ℚ m.e *ℚ d.eta +ℚ d.eta ^ℚ 2 *ℚ (decimal 15 1 -ℚ decimal 5 1 *ℚ m.e *ℚ d.eta))
      +ℚ decimal 75 2 *ℚ (one_ℚ -ℚ m.c ^ℚ 2) *ℚ (whole 2 *ℚ d.eta ^ℚ 2 -ℚ m.e *ℚ d.eta *ℚ (one_ℚ +ℚ d.eta ^ℚ 2)) *ℚ cosine

  first_is : round ≡ first
  first_is = ring (m.e ∷ d.eta ∷ []) (search reads depth 90) tt

  second_is : (cosine : ℚ) → shape cosine ≡ second cosine
  second_is cosine = ring (cosine ∷ m.con41 ∷ m.c ∷ m.e ∷ d.eta ∷ []) (search reads depth 200) tt

  -- C4, with two terms and the inverse of a psi as they may be
  abbrev c4_with : ℚ → ℚ → ℚ → ℚ
  c4_with x y t = whole 2 *ℚ m.n0 *ℚ d.coef1 *ℚ m.a *ℚ m.bb *ℚ (x -ℚ j2 *ℚ d.xi *ℚ t *ℚ y)

  in_order : (p x y : ℚ) → p ≡ m.a *ℚ m.bb →
      (d.coef1 *ℚ (unit_minutes 1 *ℚ m.n0) +ℚ d.coef1 *ℚ (unit_minutes 1 *ℚ m.n0)) *ℚ p *ℚ (x -ℚ ratio (pos 1082616) 1000000000 *ℚ (d.xi /ℚ d.psi) /ℚ m.a *ℚ y)
      ≡ unit_minutes 1 *ℚ c4_with x y (inverse m.a *ℚ inverse d.psi)
  in_order p x y e =
      ap (λ t. (d.coef1 *ℚ (unit_minutes 1 *ℚ m.n0) +ℚ d.coef1 *ℚ (unit_minutes 1 *ℚ m.n0)) *ℚ t *ℚ (x -ℚ ratio (pos 1082616) 1000000000 *ℚ (d.xi /ℚ d.psi) /ℚ m.a *ℚ y)) e
      ∙ ring (x ∷ y ∷ d.coef1 ∷ m.n0 ∷ m.a ∷ m.bb ∷ d.xi ∷ inverse d.psi ∷ inverse m.a ∷ []) (search reads depth 90) tt

  pub c4_is : (cosine : ℚ) → m.p ≡ m.a *ℚ m.bb → IsEccentricityDragCoefficient m d g cosine →
      (d.coef1 *ℚ (unit_minutes 1 *ℚ m.n0) +ℚ d.coef1 *ℚ (unit_minutes 1 *ℚ m.n0)) *ℚ m.p *ℚ of_c4 cosine ≡ unit_minutes 1 *ℚ g.c4
  c4_is cosine p i =
      in_order m.p round (shape cosine) p
      ∙ ap (λ t. unit_minutes 1 *ℚ c4_with t (shape cosine) (inverse m.a *ℚ inverse d.psi)) first_is
      ∙ ap (λ t. unit_minutes 1 *ℚ c4_with first t (inverse m.a *ℚ inverse d.psi)) (second_is cosine)
      ∙ ap (λ t. unit_minutes 1 *ℚ c4_with first (second cosine) t) (sym (inverse_product (left_factor d.psi i.a_psi_divides) (right_factor m.a i.a_psi_divides) i.a_psi_divides))
      ∙ ap (λ t. unit_minutes 1 *ℚ t) (sym i.c4_is)

  pub c5_is : m.p ≡ m.a *ℚ m.bb → IsFullMotion m → IsPeriodicEccentricityDragCoefficient m d g →
      (d.coef1 +ℚ d.coef1) *ℚ m.p *ℚ (ratio (pos 1) 1 +ℚ ratio (pos 11) 4 *ℚ (et2 +ℚ eeta) +ℚ eeta *ℚ et2) ≡ g.c5
  c5_is p full i =
      ap (λ t. (d.coef1 +ℚ d.coef1) *ℚ t *ℚ (ratio (pos 1) 1 +ℚ ratio (pos 11) 4 *ℚ (et2 +ℚ eeta) +ℚ eeta *ℚ et2)) p
      ∙ ring (d.coef1 ∷ m.a ∷ m.bb ∷ m.e ∷ d.eta ∷ []) (search reads depth 200) tt
      ∙ sym (i.c5_is full)
