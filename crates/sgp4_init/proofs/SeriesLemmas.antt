-- The drag terms of higher order, in the order in which the code forms them.
use Rattle.std.proofs.Common.{◌≡◌, sym, ap, ◌∙◌, [], ◌∷◌, pos}
use Rattle.exact.specs.Rational.{ℚ, ratio, inverse, ◌+ℚ◌, ◌-ℚ◌, ◌*ℚ◌, ◌/ℚ◌, one_ℚ}
use Rattle.exact.proofs.RationalRing.{ring, reads}
use Rattle.exact.proofs.Strict.{mul_inverse}
use Rattle.sgp4_model.specs.Density.{DensityRecord, IsDensityTerms}
use Rattle.sgp4_model.specs.Drag.{DragRecord}
use Rattle.sgp4_model.specs.HigherDrag.{HigherDragRecord, IsFullHigherDrag}
use Rattle.sgp4_model.specs.MeanMotion.{MotionRecord}
use Rattle.sgp4_shape.specs.Covering.{unit_minutes}
use Rattle.sgp4_init.proofs.DensityLemmas.{base, base_is}
use Rattle.sgp4_init.proofs.EquationLemmas.{equal_by, none}

module _ (m : MotionRecord) (d : DensityRecord) (g : DragRecord) (f : HigherDragRecord) (terms : IsDensityTerms m d) (higher : IsFullHigherDrag m d g f) where
  abbrev u : ℚ
  u = unit_minutes 1

  s_is : d.s ≡ base
  s_is = terms.s_is ∙ base_is

  -- the semimajor axis times xi is 1 + s xi
  pub axi_is : ratio (pos 1) 1 +ℚ base *ℚ d.xi ≡ m.a *ℚ d.xi
  axi_is =
      ap (λ t. ratio (pos 1) 1 +ℚ t *ℚ d.xi) (sym s_is)
      ∙ ap (λ t. ratio (pos 1) 1 +ℚ d.s *ℚ t) terms.xi_is
      ∙ equal_by (m.a ∷ d.s ∷ inverse (m.a -ℚ d.s) ∷ []) {y = m.a *ℚ (one_ℚ /ℚ (m.a -ℚ d.s))} (none (sym (mul_inverse (m.a -ℚ d.s) terms.a_less_s_divides)) one_ℚ) (search reads depth 90) tt
      ∙ ap (λ t. m.a *ℚ t) (sym terms.xi_is)

  pub d2_is : ratio (pos 4) 1 *ℚ (m.a *ℚ d.xi) *ℚ (u *ℚ g.c1 *ℚ (u *ℚ g.c1)) ≡ unit_minutes 2 *ℚ f.d2
  d2_is = ring (m.a ∷ d.xi ∷ g.c1 ∷ []) (search reads depth 90) tt ∙ ap (λ t. unit_minutes 2 *ℚ t) (sym higher.d2_is)

  pub w_is : unit_minutes 2 *ℚ f.d2 *ℚ d.xi *ℚ (ratio (pos 1) 3 *ℚ (u *ℚ g.c1)) ≡ unit_minutes 3 *ℚ f.w
  w_is = ring (f.d2 ∷ d.xi ∷ g.c1 ∷ []) (search reads depth 90) tt ∙ ap (λ t. unit_minutes 3 *ℚ t) (sym higher.w_is)

  pub d3_is : (ratio (pos 17) 1 *ℚ m.a +ℚ base) *ℚ (unit_minutes 3 *ℚ f.w) ≡ unit_minutes 3 *ℚ f.d3
  d3_is =
      ap (λ t. (ratio (pos 17) 1 *ℚ m.a +ℚ t) *ℚ (unit_minutes 3 *ℚ f.w)) (sym s_is)
      ∙ ring (m.a ∷ d.s ∷ f.w ∷ []) (search reads depth 90) tt
      ∙ ap (λ t. unit_minutes 3 *ℚ t) (sym higher.d3_is)

  pub d4_is : ratio (pos 1) 2 *ℚ (unit_minutes 3 *ℚ f.w) *ℚ (m.a *ℚ d.xi) *ℚ ((ratio (pos 221) 1 *ℚ m.a +ℚ ratio (pos 200140185) 6378135) *ℚ (u *ℚ g.c1)) ≡ unit_minutes 4 *ℚ f.d4
  d4_is =
      ring (m.a ∷ d.xi ∷ f.w ∷ g.c1 ∷ []) {y = ratio (pos 1) 2 *ℚ (unit_minutes 3 *ℚ f.w) *ℚ (m.a *ℚ d.xi) *ℚ ((ratio (pos 221) 1 *ℚ m.a +ℚ ratio (pos 31) 1 *ℚ base) *ℚ (u *ℚ g.c1))} (search reads depth 90) tt
      ∙ ap (λ t. ratio (pos 1) 2 *ℚ (unit_minutes 3 *ℚ f.w) *ℚ (m.a *ℚ d.xi) *ℚ ((ratio (pos 221) 1 *ℚ m.a +ℚ ratio (pos 31) 1 *ℚ t) *ℚ (u *ℚ g.c1))) (sym s_is)
      ∙ ring (m.a ∷ d.s ∷ d.xi ∷ f.w ∷ g.c1 ∷ []) (search reads depth 90) tt
      ∙ ap (λ t. unit_minutes 4 *ℚ t) (sym higher.d4_is)

  pub t3cof_is : unit_minutes 2 *ℚ f.d2 +ℚ (u *ℚ g.c1 *ℚ (u *ℚ g.c1) +ℚ u *ℚ g.c1 *ℚ (u *ℚ g.c1)) ≡ unit_minutes 2 *ℚ f.t3cof
  t3cof_is = ring (f.d2 ∷ g.c1 ∷ []) (search reads depth 90) tt ∙ ap (λ t. unit_minutes 2 *ℚ t) (sym higher.t3cof_is)

  pub t4cof_is :
      ratio (pos 1) 4 *ℚ (ratio (pos 3) 1 *ℚ (unit_minutes 3 *ℚ f.d3) +ℚ u *ℚ g.c1 *ℚ (ratio (pos 12) 1 *ℚ (unit_minutes 2 *ℚ f.d2) +ℚ ratio (pos 10) 1 *ℚ (u *ℚ g.c1 *ℚ (u *ℚ g.c1))))
      ≡ unit_minutes 3 *ℚ f.t4cof
  t4cof_is = ring (f.d2 ∷ f.d3 ∷ g.c1 ∷ []) (search reads depth 90) tt ∙ ap (λ t. unit_minutes 3 *ℚ t) (sym higher.t4cof_is)

  pub t5cof_is :
      ratio (pos 1) 5
      *ℚ (ratio (pos 3) 1 *ℚ (unit_minutes 4 *ℚ f.d4) +ℚ ratio (pos 12) 1 *ℚ (u *ℚ g.c1 *ℚ (unit_minutes 3 *ℚ f.d3))
      +ℚ ratio (pos 6) 1 *ℚ (unit_minutes 2 *ℚ f.d2 *ℚ (unit_minutes 2 *ℚ f.d2))
      +ℚ ratio (pos 15) 1 *ℚ (u *ℚ g.c1 *ℚ (u *ℚ g.c1)) *ℚ (unit_minutes 2 *ℚ f.d2 +ℚ unit_minutes 2 *ℚ f.d2 +ℚ u *ℚ g.c1 *ℚ (u *ℚ g.c1)))
      ≡ unit_minutes 4 *ℚ f.t5cof
  t5cof_is = ring (f.d2 ∷ f.d3 ∷ f.d4 ∷ g.c1 ∷ []) (search reads depth 90) tt ∙ ap (λ t. unit_minutes 4 *ℚ t) (sym higher.t5cof_is)
