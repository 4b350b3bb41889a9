-- What lines over a cell do under the operations.
use Rattle.std.proofs.Common.{◌≡◌, ◌∙◌, sym, subst, [], ◌∷◌, ⊎_elim, pos}
use Rattle.exact.specs.Rational.{ℚ, ratio, inverse, ◌+ℚ◌, ◌-ℚ◌, ◌*ℚ◌, ◌/ℚ◌, neg_ℚ, one_ℚ, zero_ℚ, ◌≤ℚ◌, ◌<ℚ◌}
use Rattle.exact.proofs.RationalRing.{ring, reads}
use Rattle.exact.proofs.Order.{gap, le_antisym, le_by, ◌⊕◌}
use Rattle.exact.proofs.Strict.{Positive, mul_inverse, not_zero, positive_gap, positive_product, positive_sum, positive_weak}
use Rattle.sgp4_model.specs.Angle.{IsNear, part}
use Rattle.sgp4_model.specs.Root.{IsCbrt2, IsSqrt}
use Rattle.fixed_iv.specs.Common.{IsGreater}
use Rattle.fixed_iv.specs.Place.{Place, on_line}
use Rattle.lin_form.specs.Bend.{ahead, half_square}
use Rattle.lin_form.specs.Covered.{on_slope}

-- a number above 0
positive_of : {x : ℚ} → zero_ℚ <ℚ x → Positive x
positive_of {x} h = subst Positive (ring (x ∷ []) {y = x} (search reads depth 90) tt) (positive_gap h)

-- ---- sums
pub level_on : (h : Place) (x : ℚ) → x ≡ on_slope h x zero_ℚ
level_on h x = ring (h.at ∷ x ∷ []) (search reads depth 90) tt

pub line_on : (h : Place) (x y : ℚ) → on_line h x y ≡ on_slope h (ratio (pos 1) 2 *ℚ (x +ℚ y)) (ratio (pos 1) 2 *ℚ (y -ℚ x))
line_on h x y = ring (h.at ∷ x ∷ y ∷ []) (search reads depth 90) tt

pub sum_on : {x y : ℚ} (h : Place) (m s n t : ℚ) → x ≡ on_slope h m s → y ≡ on_slope h n t → x +ℚ y ≡ on_slope h (m +ℚ n) (s +ℚ t)
sum_on h m s n t e f = rw (e, f) (ring (h.at ∷ m ∷ s ∷ n ∷ t ∷ []) (search reads depth 90) tt)

pub difference_on : {x y : ℚ} (h : Place) (m s n t : ℚ) → x ≡ on_slope h m s → y ≡ on_slope h n t → x -ℚ y ≡ on_slope h (m -ℚ n) (s -ℚ t)
difference_on h m s n t e f = rw (e, f) (ring (h.at ∷ m ∷ s ∷ n ∷ t ∷ []) (search reads depth 90) tt)

pub negative_on : {x : ℚ} (h : Place) (m s : ℚ) → x ≡ on_slope h m s → neg_ℚ x ≡ on_slope h (neg_ℚ m) (neg_ℚ s)
negative_on h m s e = rw e (ring (h.at ∷ m ∷ s ∷ []) (search reads depth 90) tt)

-- ---- products and quotients
-- with no slope the value is that of the middle
pub middle_is : {x m s : ℚ} (h : Place) → x ≡ on_slope h m s → s ≡ zero_ℚ → x ≡ m
middle_is {m = m} h e f = rw (e, f) (ring (h.at ∷ m ∷ []) (search reads depth 90) tt)

pub commuted : (x y : ℚ) → x *ℚ y ≡ y *ℚ x
commuted x y = ring (x ∷ y ∷ []) (search reads depth 90) tt

pub scaled_on : {x : ℚ} (h : Place) (m s f : ℚ) → x ≡ on_slope h m s → f *ℚ x ≡ on_slope h (m *ℚ f) (s *ℚ f)
scaled_on h m s f e = rw e (ring (h.at ∷ m ∷ s ∷ f ∷ []) (search reads depth 90) tt)

pub product_on : {x y : ℚ} (h : Place) (m s n t : ℚ) → x ≡ on_slope h m s → y ≡ on_slope h n t → x *ℚ y ≡ on_slope h (m *ℚ n +ℚ h.at *ℚ h.at *ℚ (s *ℚ t)) (m *ℚ t +ℚ s *ℚ n)
product_on h m s n t e f = rw (e, f) (ring (h.at ∷ m ∷ s ∷ n ∷ t ∷ []) (search reads depth 90) tt)

-- i is 1 / n, and j is 1 / (n + h t)
quotient_times : (h m s n t i j : ℚ) → n *ℚ i ≡ one_ℚ → (n +ℚ h *ℚ t) *ℚ j ≡ one_ℚ →
    (m +ℚ h *ℚ s) *ℚ j ≡ (m *ℚ i -ℚ h *ℚ h *ℚ (((s -ℚ m *ℚ i *ℚ t) *ℚ i *ℚ t) *ℚ j)) +ℚ h *ℚ ((s -ℚ m *ℚ i *ℚ t) *ℚ i)
quotient_times h m s n t i j p q =
    sym (
    ring (h ∷ m ∷ s ∷ n ∷ t ∷ i ∷ j ∷ [])
    {y = (m *ℚ i +ℚ h *ℚ ((s -ℚ m *ℚ i *ℚ t) *ℚ i)) *ℚ (one_ℚ -ℚ (n +ℚ h *ℚ t) *ℚ j) +ℚ (m +ℚ h *ℚ (s -ℚ m *ℚ i *ℚ t)) *ℚ (n *ℚ i) *ℚ j +ℚ h *ℚ (m *ℚ i *ℚ t) *ℚ j}
    (search reads depth 90) tt
    ∙ rw (p, q) (ring (h ∷ m ∷ s ∷ t ∷ i ∷ j ∷ []) (search reads depth 90) tt)
    )

pub quotient_on : {x y : ℚ} (h : Place) (m s n t : ℚ) → ¬ (n ≡ zero_ℚ) → ¬ (y ≡ zero_ℚ) → x ≡ on_slope h m s → y ≡ on_slope h n t →
    x /ℚ y ≡ on_slope h (m /ℚ n -ℚ h.at *ℚ h.at *ℚ (((s -ℚ m /ℚ n *ℚ t) /ℚ n *ℚ t) /ℚ y)) ((s -ℚ m /ℚ n *ℚ t) /ℚ n)
quotient_on {x} {y} h m s n t n_off y_off e f =
    rw e (quotient_times h.at m s n t (inverse n) (inverse y) (mul_inverse n n_off) (subst (λ z. z *ℚ inverse y ≡ one_ℚ) f (mul_inverse y y_off)))

-- ---- a pair, from the pair of the middle
pub off_near : {w a b : ℚ} → IsNear w a b → IsNear w (a -ℚ b) zero_ℚ
off_near {w} {a} {b} n = record {
  above = le_by (w ∷ a ∷ b ∷ []) (gap n.above) (search reads depth 90) tt;
  below = le_by (w ∷ a ∷ b ∷ []) (gap n.below) (search reads depth 90) tt;
}

pub sine_on : (h : Place) (slope s c t : ℚ) →
    t ≡ on_slope h (s -ℚ h.at *ℚ h.at *ℚ (half_square slope *ℚ s) +ℚ (t -ℚ ahead (h.at *ℚ slope) s c)) (slope *ℚ c)
sine_on h slope s c t = ring (h.at ∷ slope ∷ s ∷ c ∷ t ∷ []) (search reads depth 90) tt

pub cosine_on : (h : Place) (slope s c a : ℚ) →
    a ≡ on_slope h (c -ℚ h.at *ℚ h.at *ℚ (half_square slope *ℚ c) +ℚ (a -ℚ ahead (h.at *ℚ slope) c (neg_ℚ s)))
    (neg_ℚ (slope *ℚ s))
cosine_on h slope s c a = ring (h.at ∷ slope ∷ s ∷ c ∷ a ∷ []) (search reads depth 90) tt

-- ---- roots, from the root of the middle
-- how far the difference of the squares is from that of the numbers
abbrev pub square_off : ℚ → ℚ → ℚ → ℚ
square_off r t d = r *ℚ r -ℚ t *ℚ t -ℚ d

pub square_off_near : {x m r t : ℚ} (h : Place) (s : ℚ) → x ≡ on_slope h m s → IsSqrt x r → IsSqrt m t → IsNear (part 59) (square_off r t (h.at *ℚ s)) zero_ℚ
square_off_near {x} {m} {r} {t} h s e p q =
    let near : IsNear (part 60) (r *ℚ r) (m +ℚ h.at *ℚ s) = subst (IsNear (part 60) (r *ℚ r)) e p.square in
    record {
      above = le_by (h.at ∷ m ∷ s ∷ r ∷ t ∷ []) (gap near.above ⊕ gap q.square.below) (search reads depth 90) tt;
      below = le_by (h.at ∷ m ∷ s ∷ r ∷ t ∷ []) (gap near.below ⊕ gap q.square.above) (search reads depth 90) tt;
    }

root_times : (h s r t i : ℚ) → (t +ℚ t) *ℚ i ≡ one_ℚ → r ≡ (t +ℚ (square_off r t (h *ℚ s) -ℚ (r -ℚ t) *ℚ (r -ℚ t)) *ℚ i) +ℚ h *ℚ (s *ℚ i)
root_times h s r t i p =
    sym (
    ring (h ∷ s ∷ r ∷ t ∷ i ∷ []) {y = t +ℚ (r -ℚ t) *ℚ ((t +ℚ t) *ℚ i)} (search reads depth 90) tt
    ∙ rw p (ring (r ∷ t ∷ []) (search reads depth 90) tt)
    )

pub root_on : (h : Place) (s r t : ℚ) → zero_ℚ <ℚ t → r ≡ on_slope h (t +ℚ (square_off r t (h.at *ℚ s) -ℚ (r -ℚ t) *ℚ (r -ℚ t)) /ℚ (t +ℚ t)) (s /ℚ (t +ℚ t))
root_on h s r t p = root_times h.at s r t (inverse (t +ℚ t)) (mul_inverse (t +ℚ t) (not_zero (positive_sum (positive_of p) (positive_weak (positive_of p)))))

abbrev pub cube_off : ℚ → ℚ → ℚ → ℚ → ℚ
cube_off r t x m = r *ℚ r *ℚ r -ℚ t *ℚ t *ℚ t -ℚ (x *ℚ x -ℚ m *ℚ m)

pub cube_off_near : {x m r t : ℚ} → IsCbrt2 x r → IsCbrt2 m t → IsNear (part 59) (cube_off r t x m) zero_ℚ
cube_off_near {x} {m} {r} {t} p q = record {
  above = le_by (x ∷ m ∷ r ∷ t ∷ []) (gap p.cube.above ⊕ gap q.cube.below) (search reads depth 90) tt;
  below = le_by (x ∷ m ∷ r ∷ t ∷ []) (gap p.cube.below ⊕ gap q.cube.above) (search reads depth 90) tt;
}

cube_times : (h m s r t i : ℚ) → (t +ℚ t +ℚ t) *ℚ t *ℚ i ≡ one_ℚ →
    r ≡ (t +ℚ (h *ℚ h *ℚ (s *ℚ s) +ℚ cube_off r t (m +ℚ h *ℚ s) m -ℚ (r -ℚ t) *ℚ (r -ℚ t) *ℚ (t +ℚ t +ℚ r)) *ℚ i) +ℚ h *ℚ ((m *ℚ s +ℚ m *ℚ s) *ℚ i)
cube_times h m s r t i p =
    sym (
    ring (h ∷ m ∷ s ∷ r ∷ t ∷ i ∷ []) {y = t +ℚ (r -ℚ t) *ℚ ((t +ℚ t +ℚ t) *ℚ t *ℚ i)} (search reads depth 90) tt
    ∙ rw p (ring (r ∷ t ∷ []) (search reads depth 90) tt)
    )

pub cube_on : {x : ℚ} (h : Place) (m s r t : ℚ) → zero_ℚ <ℚ t → x ≡ on_slope h m s →
    r ≡ on_slope h (t +ℚ (h.at *ℚ h.at *ℚ (s *ℚ s) +ℚ cube_off r t x m -ℚ (r -ℚ t) *ℚ (r -ℚ t) *ℚ (t +ℚ t +ℚ r)) /ℚ ((t +ℚ t +ℚ t) *ℚ t)) ((m *ℚ s +ℚ m *ℚ s) /ℚ ((t +ℚ t +ℚ t) *ℚ t))
cube_on {x} h m s r t p e =
    let above = positive_of p in
    let weak = positive_weak above in
    rw e (cube_times h.at m s r t (inverse ((t +ℚ t +ℚ t) *ℚ t)) (mul_inverse ((t +ℚ t +ℚ t) *ℚ t) (not_zero (positive_product (positive_sum (positive_sum above weak) weak) above))))

-- ---- the greater of two, where one is known to be
pub greater_is : {x m z : ℚ} → m ≤ℚ x → IsGreater x m z → z ≡ x
greater_is {x} {m} {z} h g = ⊎_elim (λ (e : z ≡ x). e) (λ (e : z ≡ m). le_antisym (subst (λ t. t ≤ℚ x) (sym e) h) g.not_below_left) g.is
