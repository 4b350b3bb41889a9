-- The equations at the scale of the code, 16,384 minutes.
use Rattle.std.proofs.Common.{◌≡◌, arith, IsTrue, [], ◌∷◌, T, not, Bool, true, false, inl, inr}
use Rattle.exact.specs.Rational.{ℚ, ◌+ℚ◌, ◌-ℚ◌, ◌*ℚ◌, ◌^ℚ◌, one_ℚ, at_least_0, ◌≤ℚ◌, ◌<ℚ◌}
use Rattle.exact.proofs.RationalRing.{ring, reads}
use Rattle.exact.proofs.Order.{le_refl}
use Rattle.exact.proofs.Strict.{le_of_lt}
use Rattle.exact.proofs.Tests.{by_test}
use Rattle.fixed_iv.specs.Arithmetic.{exact}
use Rattle.fixed_iv.specs.Common.{IsGreater}
use Rattle.sgp4_model.specs.MeanElements.{least_ecc}
use Rattle.sgp4_shape.specs.Covering.{unit_minutes}
use Rattle.sgp4_drag.specs.Lines.{decayed, drag_correction, drag_factor, grown, longitude_gain, node, semimajor_axis}

module _ (x : ℚ) where
  -- minutes
  abbrev t : ℚ
  t = unit_minutes 1 *ℚ x

  pub rate_is : (a b : ℚ) → grown exact a (unit_minutes 1 *ℚ b) x ≡ grown exact a b t
  rate_is a b = ring (a ∷ b ∷ x ∷ []) (search reads depth 60) tt

  pub node_is : (a b c : ℚ) → node exact a (unit_minutes 1 *ℚ b) (unit_minutes 2 *ℚ c) x (x *ℚ x) ≡ node exact a b c t (t ^ℚ 2)
  node_is a b c = ring (a ∷ b ∷ c ∷ x ∷ []) (search reads depth 90) tt

  pub correction_is : (w m n d c : ℚ) →
      drag_correction exact (unit_minutes 1 *ℚ w) m (m *ℚ n) n d c x ≡ w *ℚ t +ℚ m *ℚ ((one_ℚ +ℚ n *ℚ c) ^ℚ 3 -ℚ d)
  correction_is w m n d c = ring (w ∷ m ∷ n ∷ d ∷ c ∷ x ∷ []) (search reads depth 120) tt

  pub factor_is : (c1 d2 d3 d4 : ℚ) →
      drag_factor exact (unit_minutes 1 *ℚ c1) (unit_minutes 2 *ℚ d2) (unit_minutes 3 *ℚ d3) (unit_minutes 4 *ℚ d4) x (x *ℚ x) (x *ℚ x *ℚ x) (x *ℚ x *ℚ (x *ℚ x)) ≡
      drag_factor exact c1 d2 d3 d4 t (t ^ℚ 2) (t ^ℚ 3) (t ^ℚ 4)
  factor_is c1 d2 d3 d4 = ring (c1 ∷ d2 ∷ d3 ∷ d4 ∷ x ∷ []) (search reads depth 200) tt

  pub decay_is : (e b c4 c5 n s : ℚ) → decayed exact e b (unit_minutes 1 *ℚ c4) c5 n s x ≡ decayed exact e b c4 c5 n s t
  decay_is e b c4 c5 n s = ring (e ∷ b ∷ c4 ∷ c5 ∷ n ∷ s ∷ x ∷ []) (search reads depth 90) tt

  pub longitude_is : (m n t2 t3 t4 t5 : ℚ) →
      m +ℚ unit_minutes 1 *ℚ n *ℚ longitude_gain exact (unit_minutes 1 *ℚ t2) (unit_minutes 2 *ℚ t3) (unit_minutes 3 *ℚ t4) (unit_minutes 4 *ℚ t5) x (x *ℚ x) (x *ℚ x *ℚ x) (x *ℚ x *ℚ (x *ℚ x)) ≡
      m +ℚ n *ℚ longitude_gain exact t2 t3 t4 t5 t (t ^ℚ 2) (t ^ℚ 3) (t ^ℚ 4)
  longitude_is m n t2 t3 t4 t5 = ring (m ∷ n ∷ t2 ∷ t3 ∷ t4 ∷ t5 ∷ x ∷ []) (search reads depth 200) tt

pub square_is : (a b : ℚ) → semimajor_axis exact a b ≡ a *ℚ b ^ℚ 2
square_is a b = ring (a ∷ b ∷ []) (search reads depth 40) tt

-- the raised eccentricity is the greater of the two
pub raised_is : (x z : ℚ) → (least_ecc ≤ℚ x → z ≡ x) → (x <ℚ least_ecc → z ≡ least_ecc) → IsGreater x least_ecc z
raised_is x z above below = by_test (at_least_0 (x -ℚ least_ecc)) (λ t. high (record { le = t })) (λ t. low (record { lt = t }))
  where
    high : least_ecc ≤ℚ x → IsGreater x least_ecc z
    high h = record { not_below_left = rw (above h) (le_refl x); not_below_right = rw (above h) h; is = inl (above h) }

    low : x <ℚ least_ecc → IsGreater x least_ecc z
    low h = record { not_below_left = rw (below h) (le_of_lt h); not_below_right = rw (below h) (le_refl least_ecc); is = inr (below h) }

pub untrue : {b : Bool} → b ≡ false → IsTrue b → ⊥
untrue e t = grind (arith, e, t)
