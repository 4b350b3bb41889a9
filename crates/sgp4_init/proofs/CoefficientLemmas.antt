-- The remaining coefficients, in the order in which the code forms them.
use Rattle.std.proofs.Common.{◌≡◌, sym, ap, ◌∙◌, subst, [], ◌∷◌, arith, Bool, ◌*◌, ◌-◌, ◌^◌, pos, negsuc}
use Rattle.exact.specs.Rational.{ℚ, ratio, inverse, ◌+ℚ◌, ◌-ℚ◌, ◌*ℚ◌, ◌/ℚ◌, ◌^ℚ◌, neg_ℚ, one_ℚ, zero_ℚ, ◌≤ℚ◌, ◌<ℚ◌}
use Rattle.exact.proofs.RationalRing.{ring, reads}
use Rattle.exact.specs.Interval.{Inside, between}
use Rattle.exact.proofs.Intervals.{inside, max_holds, min_holds}
use Rattle.exact.proofs.Order.{known, le_by, le_trans, gap, ◌⊕◌}
use Rattle.exact.proofs.Strict.{Positive, le_of_lt, le_quotient, mul_inverse, not_zero, positive_gap, positive_known, quotient_le}
use Rattle.fixed_iv.specs.Extent.{Extent}
use Rattle.fixed_iv.specs.Place.{Place}
use Rattle.fixed_iv.specs.Reach.{Reach, IsHeld}
use Rattle.sgp4_model.specs.Coefficients.{CoefficientRecord, IsRemainingCoefficients}
use Rattle.sgp4_model.specs.Density.{DensityRecord, IsDensityTerms}
use Rattle.sgp4_model.specs.Drag.{DragRecord, IsPerigeeDragCoefficient, near_circle}
use Rattle.sgp4_model.specs.EpochAngles.{EpochRecord}
use Rattle.sgp4_model.specs.MeanMotion.{IsFullMotion, IsSimpleMotion, MotionRecord, RecoversMotion}
use Rattle.sgp4_model.specs.Numerals.{whole, decimal}
use Rattle.sgp4_model.specs.Rates.{RatesRecord}
use Rattle.sgp4_model.specs.Wgs72.{j3}
use Rattle.sgp4_shape.specs.Covering.{unit_minutes}
use Rattle.sgp4_init.specs.Numerals.{of_ratio, or_zero}
use Rattle.sgp4_init.specs.TakenMotion.{IsTakenMotion}
use Rattle.fixed_iv.proofs.Held.{held_at}
use Rattle.sgp4_init.proofs.DensityLemmas.{coef_power, part_of_radius}
use Rattle.sgp4_init.proofs.EquationLemmas.{equal_by, inverse_product, j2_inverse, left_factor, none, positive_from, right_factor, ◌⊞◌}

-- ---- numerals that allow 0 too
pub held_or_zero : {A : Type 0} {C : A → Place → ℚ → Type 0} {E : A → Extent} {told : Bool} {a : A} {h : Place} {x : ℚ} {r : Reach} →
    IsHeld C E told a h x r → IsHeld C E told a h x (or_zero r)
unfolding or_zero
held_or_zero {r = r} k =
    record {
      covers = k.covers;
      known = λ told t. let n = k.known told t in record {
        inside = record { low = le_trans (min_holds r.range.low (record { num = pos 0; under = 0 })).0 n.inside.low; high = le_trans n.inside.high (max_holds r.range.high (record { num = pos 0; under = 0 })).0 };
        measured = n.measured;
        narrow = n.narrow;
      };
    }

pub held_zero : {A : Type 0} {C : A → Place → ℚ → Type 0} {E : A → Extent} {told : Bool} {a : A} {h : Place} {x : ℚ} (r : Reach) →
    x ≡ zero_ℚ → IsHeld C E told a h (ratio (pos 0) 1) (of_ratio (pos 0) (pos 1)) → IsHeld C E told a h x (or_zero r)
unfolding or_zero of_ratio ratio
held_zero {C = C} {E} {told} {a} {h} r e k = held_at (sym e) zero
  where
    zero : IsHeld C E told a h zero_ℚ (or_zero r)
    zero = record {
      covers = k.covers;
      known = λ told t. let n = k.known told tt in record {
        inside = record { low = (min_holds r.range.low (record { num = pos 0; under = 0 })).1; high = (max_holds r.range.high (record { num = pos 0; under = 0 })).1 };
        measured = n.measured;
        narrow = omega (arith, n.narrow);
      };
    }

-- ---- the eccentricity
pub eccentric_inside : {x y : ℚ} → x ≡ y → near_circle <ℚ y → x ≤ℚ decimal 2 1 → Inside (between (pos 1) 10000 (pos 2000) 10000) x
eccentric_inside {x} {y} e h k =
    inside (pos 1) 10000 (pos 2000) 10000
    (rw e (le_by (y ∷ []) (gap (le_of_lt h)) (search reads depth 90) tt))
    (le_by (x ∷ []) (gap k) (search reads depth 90) tt)

-- ---- the tangent of half of the inclination
pub sum_inside : (m : MotionRecord) → IsTakenMotion m → Inside (between (pos 34) 10000 (pos 20001) 10000) (one_ℚ +ℚ m.c)
sum_inside m t = inside (pos 34) 10000 (pos 20001) 10000 t.above (le_by (m.c ∷ []) (gap t.cosine.above ⊕ known (2 ^ 60 - 10 ^ 4) (10 ^ 4 * 2 ^ 60)) (search reads depth 90) tt)

pub tangent_inside : (m : MotionRecord) → IsTakenMotion m → Inside (between (negsuc 48) 2 (pos 49) 2) (m.si /ℚ (one_ℚ +ℚ m.c))
tangent_inside m t =
    inside (negsuc 48) 2 (pos 49) 2
    (le_quotient positive (le_by (m.si ∷ m.c ∷ []) (gap t.bend.below) (search reads depth 90) tt))
    (quotient_le positive (le_by (m.si ∷ m.c ∷ []) (gap t.bend.above) (search reads depth 90) tt))
  where
    positive : Positive (one_ℚ +ℚ m.c)
    positive = positive_from (positive_known 33 10000) t.above

-- ---- the coefficients
module _ (z : EpochRecord) (m : MotionRecord) (d : DensityRecord) (g : DragRecord) (f : RatesRecord) (k : CoefficientRecord) (terms : IsDensityTerms m d) (remaining : IsRemainingCoefficients z m d g f k) where
  abbrev u : ℚ
  u = unit_minutes 1

  pub omgcof_simple : IsSimpleMotion m → u *ℚ k.omgcof ≡ zero_ℚ
  omgcof_simple simple = ap (λ t. u *ℚ t) (remaining.omgcof_is_simple simple) ∙ ring [] (search reads depth 90) tt

  pub omgcof_else : IsFullMotion m → IsPerigeeDragCoefficient m d g → m.e ≤ℚ near_circle → u *ℚ k.omgcof ≡ zero_ℚ
  omgcof_else full i h =
      ap (λ t. u *ℚ t) (remaining.omgcof_is full ∙ ap (λ t. z.bstar *ℚ t *ℚ z.of_w0.cosine) (i.c3_is_else h))
      ∙ ring (z.bstar ∷ z.of_w0.cosine ∷ []) (search reads depth 90) tt

  pub omgcof_is : IsFullMotion m → (b : ℚ) → z.bstar ≡ b → IsPerigeeDragCoefficient m d g → near_circle <ℚ m.e →
      d.coef *ℚ d.xi *ℚ (u *ℚ m.n0 *ℚ m.si) *ℚ (b *ℚ ratio (pos 253881) 54130800) /ℚ m.e *ℚ z.of_w0.cosine ≡ u *ℚ k.omgcof
  omgcof_is full b e i h =
      ring (d.coef ∷ d.xi ∷ m.n0 ∷ m.si ∷ b ∷ inverse m.e ∷ z.of_w0.cosine ∷ []) {y = u *ℚ (b *ℚ c3 (ratio (pos (10 ^ 9)) 1082616) *ℚ z.of_w0.cosine)} (search reads depth 90) tt
      ∙ ap (λ t. u *ℚ (b *ℚ c3 t *ℚ z.of_w0.cosine)) (sym j2_inverse)
      ∙ ap (λ t. u *ℚ (b *ℚ t *ℚ z.of_w0.cosine)) (sym (i.c3_is h))
      ∙ ap (λ t. u *ℚ (t *ℚ g.c3 *ℚ z.of_w0.cosine)) (sym e)
      ∙ ap (λ t. u *ℚ t) (sym (remaining.omgcof_is full))
    where
      -- C3, with some number for the inverse of J2
      c3 : ℚ → ℚ
      c3 t = neg_ℚ (whole 2) *ℚ d.coef *ℚ d.xi *ℚ (j3 *ℚ t) *ℚ m.n0 *ℚ m.si /ℚ m.e

  xi_over_eta : IsFullMotion m → near_circle <ℚ m.e → RecoversMotion m → inverse m.a *ℚ inverse m.e ≡ d.xi *ℚ inverse d.eta
  xi_over_eta full h recovers =
      equal_by (m.a ∷ m.e ∷ d.xi ∷ inverse m.a ∷ inverse m.e ∷ inverse d.eta ∷ [])
      (none (mul_inverse m.a (not_zero (axis_positive recovers))) (d.xi *ℚ inverse d.eta *ℚ (m.e *ℚ inverse m.e))
      ⊞ none (mul_inverse m.e (left_factor d.eta (remaining.e_eta_divides full h))) (d.xi *ℚ inverse d.eta)
      ⊞ none eta_inverse (neg_ℚ (inverse m.a *ℚ inverse m.e)))
      (search reads depth 90) tt
    where
      axis_positive : RecoversMotion m → Positive m.a
      axis_positive r = subst Positive (ring (m.a ∷ []) (search reads depth 90) tt) (positive_gap r.a_is.root)

      eta_inverse : m.a *ℚ m.e *ℚ d.xi *ℚ inverse d.eta ≡ one_ℚ
      eta_inverse = ap (λ t. t *ℚ inverse d.eta) (sym terms.eta_is) ∙ mul_inverse d.eta (right_factor m.e (remaining.e_eta_divides full h))

  pub axis_divides : RecoversMotion m → ¬ (m.a ≡ zero_ℚ)
  axis_divides r = not_zero (subst Positive (ring (m.a ∷ []) {x = m.a -ℚ zero_ℚ} {y = m.a} (search reads depth 90) tt) (positive_gap r.a_is.root))

  pub xmcof_is : IsFullMotion m → (b e : ℚ) → z.bstar ≡ b → m.e ≡ e → near_circle <ℚ m.e → RecoversMotion m →
      ratio (negsuc 27999) 6378135 /ℚ m.a *ℚ (part_of_radius *ℚ d.xi *ℚ (part_of_radius *ℚ d.xi) *ℚ (part_of_radius *ℚ d.xi)) *ℚ (b /ℚ e) /ℚ m.e ≡ k.xmcof
  xmcof_is full b e of_b of_e h recovers =
      ap (λ t. ratio (negsuc 27999) 6378135 /ℚ m.a *ℚ (part_of_radius *ℚ d.xi *ℚ (part_of_radius *ℚ d.xi) *ℚ (part_of_radius *ℚ d.xi)) *ℚ (b /ℚ t) /ℚ m.e) (sym of_e)
      ∙ ring (d.xi ∷ b ∷ inverse m.a ∷ inverse m.e ∷ []) {y = neg_ℚ (ratio (pos 2) 3) *ℚ (part_of_radius *ℚ (part_of_radius *ℚ d.xi) ^ℚ 3) *ℚ b *ℚ (inverse m.e *ℚ (inverse m.a *ℚ inverse m.e))} (search reads depth 90) tt
      ∙ ap (λ t. neg_ℚ (ratio (pos 2) 3) *ℚ (part_of_radius *ℚ (part_of_radius *ℚ d.xi) ^ℚ 3) *ℚ b *ℚ (inverse m.e *ℚ t)) (xi_over_eta full h recovers)
      ∙ ring (d.xi ∷ b ∷ inverse m.e ∷ inverse d.eta ∷ []) {y = neg_ℚ (ratio (pos 2) 3) *ℚ (part_of_radius *ℚ d.xi *ℚ (part_of_radius *ℚ d.xi) *ℚ (part_of_radius *ℚ d.xi *ℚ (part_of_radius *ℚ d.xi))) *ℚ b *ℚ (inverse m.e *ℚ inverse d.eta)} (search reads depth 90) tt
      ∙ ap (λ t. neg_ℚ (ratio (pos 2) 3) *ℚ t *ℚ b *ℚ (inverse m.e *ℚ inverse d.eta)) (coef_power m d terms)
      ∙ ap (λ t. neg_ℚ (ratio (pos 2) 3) *ℚ d.coef *ℚ t *ℚ (inverse m.e *ℚ inverse d.eta)) (sym of_b)
      ∙ ap (λ t. neg_ℚ (ratio (pos 2) 3) *ℚ d.coef *ℚ z.bstar *ℚ t) (sym (inverse_product (left_factor d.eta divides) (right_factor m.e divides) divides))
      ∙ sym (remaining.xmcof_is full h)
    where
      divides : ¬ (m.e *ℚ d.eta ≡ zero_ℚ)
      divides = remaining.e_eta_divides full h

  pub nodecf_is : ratio (negsuc 6) 2 *ℚ m.bb *ℚ (u *ℚ f.w1 *ℚ m.c) *ℚ (u *ℚ g.c1) ≡ unit_minutes 2 *ℚ k.nodecf
  nodecf_is = ring (m.bb ∷ f.w1 ∷ m.c ∷ g.c1 ∷ []) (search reads depth 90) tt ∙ ap (λ t. unit_minutes 2 *ℚ t) (sym remaining.nodecf_is)

  pub t2cof_is : ratio (pos 3) 2 *ℚ (u *ℚ g.c1) ≡ u *ℚ k.t2cof
  t2cof_is = ring (g.c1 ∷ []) (search reads depth 90) tt ∙ ap (λ t. u *ℚ t) (sym remaining.t2cof_is)

  pub xlcof_is : ratio (pos 253881) 433046400 *ℚ (ratio (pos 3) 1 +ℚ ratio (pos 5) 1 *ℚ m.c) *ℚ (m.si /ℚ (ratio (pos 1) 1 +ℚ m.c)) ≡ k.xlcof
  xlcof_is =
      ring (m.c ∷ m.si ∷ inverse (one_ℚ +ℚ m.c) ∷ []) {y = with_inverse (ratio (pos (10 ^ 9)) 1082616)} (search reads depth 90) tt
      ∙ ap with_inverse (sym j2_inverse)
      ∙ sym remaining.xlcof_is
    where
      with_inverse : ℚ → ℚ
      with_inverse t = neg_ℚ (decimal 25 2) *ℚ (j3 *ℚ t) *ℚ m.si *ℚ (whole 3 +ℚ whole 5 *ℚ m.c) /ℚ (one_ℚ +ℚ m.c)

  pub aycof_is : ratio (pos 253881) 216523200 *ℚ m.si ≡ k.aycof
  aycof_is =
      ring (m.si ∷ []) {y = neg_ℚ (decimal 5 1) *ℚ (j3 *ℚ ratio (pos (10 ^ 9)) 1082616) *ℚ m.si} (search reads depth 90) tt
      ∙ ap (λ t. neg_ℚ (decimal 5 1) *ℚ (j3 *ℚ t) *ℚ m.si) (sym j2_inverse)
      ∙ sym remaining.aycof_is

  pub delmo_is : (ratio (pos 1) 1 +ℚ d.eta *ℚ z.of_m0.cosine) *ℚ (ratio (pos 1) 1 +ℚ d.eta *ℚ z.of_m0.cosine) *ℚ (ratio (pos 1) 1 +ℚ d.eta *ℚ z.of_m0.cosine) ≡ k.delmo
  delmo_is = ring (d.eta ∷ z.of_m0.cosine ∷ []) (search reads depth 90) tt ∙ sym remaining.delmo_is
