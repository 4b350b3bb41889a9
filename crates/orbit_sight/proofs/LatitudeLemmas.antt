-- The sine and the cosine of the argument of latitude are a pair, nearly: both are at most 1.01 in size. And the sine of a small
-- angle is small.
use Rattle.std.proofs.Common.{◌≡◌, ◌∙◌, ap, [], ◌∷◌, ◌-◌, ◌*◌, ◌^◌, pos, negsuc}
use Rattle.exact.specs.Rational.{ℚ, ratio, neg_ℚ, one_ℚ, zero_ℚ, ◌+ℚ◌, ◌-ℚ◌, ◌*ℚ◌, ◌≤ℚ◌}
use Rattle.exact.proofs.Bounds.{by_sign, square}
use Rattle.exact.specs.Interval.{Inside, Interval, between}
use Rattle.exact.proofs.Intervals.{inside, le_on}
use Rattle.exact.proofs.Order.{gap, known, le_by, ◌⊕◌, ◌⊗◌}
use Rattle.exact.proofs.RationalRing.{ring, reads}
use Rattle.sgp4_model.specs.Angle.{IsNear, IsPi, IsSinCos, part}
use Rattle.sgp4_model.specs.PairLaws.{IsModest}
use Rattle.sgp4_model.proofs.Lipschitz.{sine_pairs_are_lipschitz}
use Rattle.sgp4_model.proofs.Mirror.{reflection_keeps_pairs}

-- ---- the sum of the squares of the numerators
-- with j as 1 / (1 + b), where b^2 is 1 - l to d: what the square root leaves
root_leaves : (b l j : ℚ) → (one_ℚ +ℚ b) *ℚ j ≡ one_ℚ → j *ℚ j *ℚ l -ℚ (j +ℚ j) +ℚ one_ℚ ≡ j *ℚ j *ℚ (b *ℚ b -ℚ (one_ℚ -ℚ l))
root_leaves b l j e =
    ring (b ∷ l ∷ j ∷ []) {y = (one_ℚ -ℚ (one_ℚ +ℚ b) *ℚ j) *ℚ (one_ℚ -ℚ j +ℚ j *ℚ b) +ℚ j *ℚ j *ℚ (b *ℚ b -ℚ (one_ℚ -ℚ l))} (search reads depth 120) tt
    ∙ ap (λ t. (one_ℚ -ℚ t) *ℚ (one_ℚ -ℚ j +ℚ j *ℚ b) +ℚ j *ℚ j *ℚ (b *ℚ b -ℚ (one_ℚ -ℚ l))) e
    ∙ ring (b ∷ l ∷ j ∷ []) (search reads depth 120) tt

-- the inner product x c + y s, and the outer one x s - y c
abbrev inner : ℚ → ℚ → ℚ → ℚ → ℚ
inner x y s c = x *ℚ c +ℚ y *ℚ s

abbrev outer : ℚ → ℚ → ℚ → ℚ → ℚ
outer x y s c = x *ℚ s -ℚ y *ℚ c

-- they are those of the distance over the semimajor axis, but for two small terms
squares_are : (x y s c j : ℚ) →
    (s -ℚ y -ℚ x *ℚ outer x y s c *ℚ j) *ℚ (s -ℚ y -ℚ x *ℚ outer x y s c *ℚ j) +ℚ (c -ℚ x +ℚ y *ℚ outer x y s c *ℚ j) *ℚ (c -ℚ x +ℚ y *ℚ outer x y s c *ℚ j) ≡
    (one_ℚ -ℚ inner x y s c) *ℚ (one_ℚ -ℚ inner x y s c) +ℚ (s *ℚ s +ℚ c *ℚ c -ℚ one_ℚ) *ℚ (one_ℚ -ℚ (x *ℚ x +ℚ y *ℚ y))
    +ℚ outer x y s c *ℚ outer x y s c *ℚ (j *ℚ j *ℚ (x *ℚ x +ℚ y *ℚ y) -ℚ (j +ℚ j) +ℚ one_ℚ)
squares_are x y s c j = ring (x ∷ y ∷ s ∷ c ∷ j ∷ []) (search reads depth 300) tt

-- the two small terms, n as the sum of the squares of the pair less 1, l as the square of the vector's length, o as the outer product
terms_small : (n l o j d : ℚ) → Inside (between (negsuc 0) 1000000 (pos 1) 1000000) n → Inside (between (pos 0) 1 (pos 1) 1) l → Inside (between (negsuc 0) 1 (pos 1) 1) o → Inside (between (pos 0) 1 (pos 1) 1) j →
    Inside (between (negsuc 0) 1000000 (pos 1) 1000000) d → n *ℚ (one_ℚ -ℚ l) +ℚ o *ℚ o *ℚ (j *ℚ j *ℚ d) ≤ℚ ratio (pos 1) 1000
terms_small n l o j d h i k m p =
    le_on (10 ^ 30) (between (negsuc 0) 1000000 (pos 1) 1000000 ∷ between (pos 0) 1 (pos 1) 1 ∷ between (negsuc 0) 1 (pos 1) 1 ∷ between (pos 0) 1 (pos 1) 1 ∷ between (negsuc 0) 1000000 (pos 1) 1000000 ∷ [])
    (n ∷ l ∷ o ∷ j ∷ d ∷ []) (h, (i, (k, (m, (p, tt))))) (search reads depth 120) tt

near_million : (a b : ℚ) (m : ℚ) → m ≤ℚ ratio (pos 1) 1000000 → IsNear m a b → Inside (between (negsuc 0) 1000000 (pos 1) 1000000) (a -ℚ b)
near_million a b m h n =
    inside (negsuc 0) 1000000 (pos 1) 1000000
    (le_by (a ∷ b ∷ m ∷ []) (gap n.below ⊕ gap h) (search reads depth 90) tt)
    (le_by (a ∷ b ∷ m ∷ []) (gap n.above ⊕ gap h) (search reads depth 90) tt)

pub squares_below : (x y s c b j : ℚ) → (one_ℚ +ℚ b) *ℚ j ≡ one_ℚ → Inside (between (pos 0) 1 (pos 1) 1) j → IsNear (part 58) (s *ℚ s +ℚ c *ℚ c) one_ℚ → IsNear (part 60) (b *ℚ b) (one_ℚ -ℚ (x *ℚ x +ℚ y *ℚ y)) →
    Inside (between (pos 0) 1 (pos 1) 1) (x *ℚ x +ℚ y *ℚ y) → Inside (between (negsuc 0) 1 (pos 1) 1) (outer x y s c) →
    (s -ℚ y -ℚ x *ℚ outer x y s c *ℚ j) *ℚ (s -ℚ y -ℚ x *ℚ outer x y s c *ℚ j) +ℚ (c -ℚ x +ℚ y *ℚ outer x y s c *ℚ j) *ℚ (c -ℚ x +ℚ y *ℚ outer x y s c *ℚ j) ≤ℚ
    (one_ℚ -ℚ inner x y s c) *ℚ (one_ℚ -ℚ inner x y s c) +ℚ ratio (pos 1) 1000
squares_below x y s c b j e of_j squares root length of_outer =
    rw (squares_are x y s c j, root_leaves b (x *ℚ x +ℚ y *ℚ y) j e)
    (le_by
    ((one_ℚ -ℚ inner x y s c) ∷ (s *ℚ s +ℚ c *ℚ c -ℚ one_ℚ) ∷ (x *ℚ x +ℚ y *ℚ y) ∷ outer x y s c ∷ j ∷ (b *ℚ b -ℚ (one_ℚ -ℚ (x *ℚ x +ℚ y *ℚ y))) ∷ [])
    (gap (terms_small _ _ _ j _
    (near_million _ _ (part 58) (le_by [] (known (2 ^ 58 - 1000000) (2 ^ 58 * 1000000)) (search reads depth 90) tt) squares) length of_outer of_j
    (near_million _ _ (part 60) (le_by [] (known (2 ^ 60 - 1000000) (2 ^ 60 * 1000000)) (search reads depth 90) tt) root)))
    (search reads depth 200) tt)

pub terms_above : (n l o j d : ℚ) → Inside (between (negsuc 0) 1000000 (pos 1) 1000000) n → Inside (between (pos 0) 1 (pos 1) 1) l → Inside (between (negsuc 0) 1 (pos 1) 1) o → Inside (between (pos 0) 1 (pos 1) 1) j →
    Inside (between (negsuc 0) 1000000 (pos 1) 1000000) d → ratio (negsuc 0) 100000 ≤ℚ n *ℚ (one_ℚ -ℚ l) +ℚ o *ℚ o *ℚ (j *ℚ j *ℚ d)
terms_above n l o j d h i k m p =
    le_on (10 ^ 30) (between (negsuc 0) 1000000 (pos 1) 1000000 ∷ between (pos 0) 1 (pos 1) 1 ∷ between (negsuc 0) 1 (pos 1) 1 ∷ between (pos 0) 1 (pos 1) 1 ∷ between (negsuc 0) 1000000 (pos 1) 1000000 ∷ [])
    (n ∷ l ∷ o ∷ j ∷ d ∷ []) (h, (i, (k, (m, (p, tt))))) (search reads depth 120) tt

pub squares_above : (x y s c b j : ℚ) → (one_ℚ +ℚ b) *ℚ j ≡ one_ℚ → Inside (between (pos 0) 1 (pos 1) 1) j → IsNear (part 58) (s *ℚ s +ℚ c *ℚ c) one_ℚ → IsNear (part 60) (b *ℚ b) (one_ℚ -ℚ (x *ℚ x +ℚ y *ℚ y)) →
    Inside (between (pos 0) 1 (pos 1) 1) (x *ℚ x +ℚ y *ℚ y) → Inside (between (negsuc 0) 1 (pos 1) 1) (outer x y s c) →
    (one_ℚ -ℚ inner x y s c) *ℚ (one_ℚ -ℚ inner x y s c) ≤ℚ
    (s -ℚ y -ℚ x *ℚ outer x y s c *ℚ j) *ℚ (s -ℚ y -ℚ x *ℚ outer x y s c *ℚ j) +ℚ (c -ℚ x +ℚ y *ℚ outer x y s c *ℚ j) *ℚ (c -ℚ x +ℚ y *ℚ outer x y s c *ℚ j) +ℚ ratio (pos 1) 100000
squares_above x y s c b j e of_j squares root length of_outer =
    rw (squares_are x y s c j, root_leaves b (x *ℚ x +ℚ y *ℚ y) j e)
    (le_by
    ((one_ℚ -ℚ inner x y s c) ∷ (s *ℚ s +ℚ c *ℚ c -ℚ one_ℚ) ∷ (x *ℚ x +ℚ y *ℚ y) ∷ outer x y s c ∷ j ∷ (b *ℚ b -ℚ (one_ℚ -ℚ (x *ℚ x +ℚ y *ℚ y))) ∷ [])
    (gap (terms_above _ _ _ j _
    (near_million _ _ (part 58) (le_by [] (known (2 ^ 58 - 1000000) (2 ^ 58 * 1000000)) (search reads depth 90) tt) squares) length of_outer of_j
    (near_million _ _ (part 60) (le_by [] (known (2 ^ 60 - 1000000) (2 ^ 60 * 1000000)) (search reads depth 90) tt) root)))
    (search reads depth 200) tt)

-- ---- a factor of a number whose square is little more than that of the other factor
below_by_squares : (u w g : ℚ) → ratio (pos 6) 10 ≤ℚ g *ℚ g → u *ℚ g *ℚ (u *ℚ g) +ℚ w *ℚ g *ℚ (w *ℚ g) ≤ℚ g *ℚ g +ℚ ratio (pos 1) 1000 → u ≤ℚ ratio (pos 101) 100
below_by_squares u w g high h =
    by_sign (ratio (pos 101) 100 -ℚ u)
    (λ n. le_by (u ∷ []) n (search reads depth 90) tt)
    (λ n. le_by (u ∷ w ∷ g ∷ [])
    (known 50000 553 ⊗ n ⊗ (gap h ⊕ known 202 100 ⊗ square g ⊗ n ⊕ square g ⊗ square (u -ℚ ratio (pos 101) 100) ⊕ square (w *ℚ g) ⊕ known 201 10000 ⊗ gap high))
    (search reads depth 200) tt)

pub both_below : (u w g p q : ℚ) → ratio (pos 6) 10 ≤ℚ g *ℚ g → u *ℚ g ≡ p → w *ℚ g ≡ q → p *ℚ p +ℚ q *ℚ q ≤ℚ g *ℚ g +ℚ ratio (pos 1) 1000 →
    Inside (between (negsuc 100) 100 (pos 101) 100) u × Inside (between (negsuc 100) 100 (pos 101) 100) w
both_below u w g p q high e f h = (of u w k, of w u (le_by (u ∷ w ∷ g ∷ []) (gap k) (search reads depth 90) tt))
  where
    k : u *ℚ g *ℚ (u *ℚ g) +ℚ w *ℚ g *ℚ (w *ℚ g) ≤ℚ g *ℚ g +ℚ ratio (pos 1) 1000
    k = rw (e, f) h

    of : (u w : ℚ) → u *ℚ g *ℚ (u *ℚ g) +ℚ w *ℚ g *ℚ (w *ℚ g) ≤ℚ g *ℚ g +ℚ ratio (pos 1) 1000 → Inside (between (negsuc 100) 100 (pos 101) 100) u
    of u w h =
        let other = below_by_squares (neg_ℚ u) w g high (le_by (u ∷ w ∷ g ∷ []) (gap h) (search reads depth 90) tt) in
        inside (negsuc 100) 100 (pos 101) 100 (le_by (u ∷ []) (gap other) (search reads depth 90) tt) (below_by_squares u w g high h)

-- the sum of the squares is at least 1, nearly
sum_above : (t g : ℚ) → ratio (pos 6) 10 ≤ℚ g *ℚ g → g *ℚ g ≤ℚ t *ℚ (g *ℚ g) +ℚ ratio (pos 1) 100000 → ratio (pos 99998) 100000 ≤ℚ t
sum_above t g high h =
    by_sign (t -ℚ ratio (pos 99998) 100000)
    (λ n. le_by (t ∷ []) n (search reads depth 90) tt)
    (λ n. le_by (t ∷ g ∷ []) (known 500000 1 ⊗ n ⊗ (gap h ⊕ square g ⊗ n ⊕ known 2 100000 ⊗ gap high)) (search reads depth 200) tt)

pub both_above : (u w g p q : ℚ) → ratio (pos 6) 10 ≤ℚ g *ℚ g → u *ℚ g ≡ p → w *ℚ g ≡ q → g *ℚ g ≤ℚ p *ℚ p +ℚ q *ℚ q +ℚ ratio (pos 1) 100000 → ratio (pos 99998) 100000 ≤ℚ u *ℚ u +ℚ w *ℚ w
both_above u w g p q high e f h = sum_above (u *ℚ u +ℚ w *ℚ w) g high (le_by (u ∷ w ∷ g ∷ []) (gap k) (search reads depth 90) tt)
  where
    k : g *ℚ g ≤ℚ u *ℚ g *ℚ (u *ℚ g) +ℚ w *ℚ g *ℚ (w *ℚ g) +ℚ ratio (pos 1) 100000
    k = rw (e, f) h

-- ---- the length of a position over its distance m: r is made of the pairs of the node (s, c) and the inclination (v, k), and of
-- the argument of latitude (a, b), which is (u, w) turned by the pair (t, d)
length_is : (m s c v k a b : ℚ) →
    m *ℚ (neg_ℚ s *ℚ k *ℚ a +ℚ c *ℚ b) *ℚ (m *ℚ (neg_ℚ s *ℚ k *ℚ a +ℚ c *ℚ b)) +ℚ m *ℚ (c *ℚ k *ℚ a +ℚ s *ℚ b) *ℚ (m *ℚ (c *ℚ k *ℚ a +ℚ s *ℚ b)) +ℚ m *ℚ v *ℚ a *ℚ (m *ℚ v *ℚ a) ≡
    m *ℚ m *ℚ (a *ℚ a +ℚ b *ℚ b +ℚ (s *ℚ s +ℚ c *ℚ c -ℚ one_ℚ) *ℚ (k *ℚ k *ℚ (a *ℚ a) +ℚ b *ℚ b) +ℚ (v *ℚ v +ℚ k *ℚ k -ℚ one_ℚ) *ℚ (a *ℚ a))
length_is m s c v k a b = ring (m ∷ s ∷ c ∷ v ∷ k ∷ a ∷ b ∷ []) (search reads depth 300) tt

turned_is : (u w t d : ℚ) → (u *ℚ d +ℚ w *ℚ t) *ℚ (u *ℚ d +ℚ w *ℚ t) +ℚ (w *ℚ d -ℚ u *ℚ t) *ℚ (w *ℚ d -ℚ u *ℚ t) ≡ (u *ℚ u +ℚ w *ℚ w) *ℚ (t *ℚ t +ℚ d *ℚ d)
turned_is u w t d = ring (u ∷ w ∷ t ∷ d ∷ []) (search reads depth 200) tt

abbrev million : Interval
million = between (negsuc 0) 1000000 (pos 1) 1000000

-- with e, f and g as what the sums of the squares of the pairs leave of 1
factor_above : (z e f g a b k : ℚ) → ratio (pos 99998) 100000 ≤ℚ z → z ≤ℚ ratio (pos 3) 1 → Inside million e → Inside million f → Inside million g → Inside (between (negsuc 1) 1 (pos 2) 1) a → Inside (between (negsuc 1) 1 (pos 2) 1) b →
    Inside (between (negsuc 1) 1 (pos 2) 1) k → ratio (pos 9999) 10000 ≤ℚ z *ℚ (one_ℚ +ℚ e) +ℚ f *ℚ (k *ℚ k *ℚ (a *ℚ a) +ℚ b *ℚ b) +ℚ g *ℚ (a *ℚ a)
factor_above z e f g a b k low high of_e of_f of_g of_a of_b of_k =
    le_on (10 ^ 30) (between (pos 99998) 100000 (pos 3) 1 ∷ million ∷ million ∷ million ∷ between (negsuc 1) 1 (pos 2) 1 ∷ between (negsuc 1) 1 (pos 2) 1 ∷ between (negsuc 1) 1 (pos 2) 1 ∷ [])
    (z ∷ e ∷ f ∷ g ∷ a ∷ b ∷ k ∷ []) (inside (pos 99998) 100000 (pos 3) 1 low high, (of_e, (of_f, (of_g, (of_a, (of_b, (of_k, tt))))))) (search reads depth 200) tt

factor_below : (z e f g a b k : ℚ) → ratio (pos 99998) 100000 ≤ℚ z → z ≤ℚ ratio (pos 205) 100 → Inside million e → Inside million f → Inside million g → Inside (between (negsuc 1) 1 (pos 2) 1) a → Inside (between (negsuc 1) 1 (pos 2) 1) b →
    Inside (between (negsuc 1) 1 (pos 2) 1) k → z *ℚ (one_ℚ +ℚ e) +ℚ f *ℚ (k *ℚ k *ℚ (a *ℚ a) +ℚ b *ℚ b) +ℚ g *ℚ (a *ℚ a) ≤ℚ ratio (pos 21) 10
factor_below z e f g a b k low high of_e of_f of_g of_a of_b of_k =
    le_on (10 ^ 30) (between (pos 99998) 100000 (pos 205) 100 ∷ million ∷ million ∷ million ∷ between (negsuc 1) 1 (pos 2) 1 ∷ between (negsuc 1) 1 (pos 2) 1 ∷ between (negsuc 1) 1 (pos 2) 1 ∷ [])
    (z ∷ e ∷ f ∷ g ∷ a ∷ b ∷ k ∷ []) (inside (pos 99998) 100000 (pos 205) 100 low high, (of_e, (of_f, (of_g, (of_a, (of_b, (of_k, tt))))))) (search reads depth 200) tt

near_one : (n : ℚ) → IsNear (part 58) n one_ℚ → Inside million (n -ℚ one_ℚ)
near_one n h = near_million n one_ℚ (part 58) (le_by [] (known (2 ^ 58 - 1000000) (2 ^ 58 * 1000000)) (search reads depth 90) tt) h

abbrev factor_of : ℚ → ℚ → ℚ → ℚ → ℚ → ℚ → ℚ
factor_of s c v k a b = a *ℚ a +ℚ b *ℚ b +ℚ (s *ℚ s +ℚ c *ℚ c -ℚ one_ℚ) *ℚ (k *ℚ k *ℚ (a *ℚ a) +ℚ b *ℚ b) +ℚ (v *ℚ v +ℚ k *ℚ k -ℚ one_ℚ) *ℚ (a *ℚ a)

pub length_within : (m s c v k u w t d a b x y z : ℚ) → ratio (pos 1034) 1000 ≤ℚ m → m ≤ℚ ratio (pos 24) 10 → ratio (pos 99998) 100000 ≤ℚ u *ℚ u +ℚ w *ℚ w → Inside (between (negsuc 100) 100 (pos 101) 100) u → Inside (between (negsuc 100) 100 (pos 101) 100) w →
    IsNear (part 58) (s *ℚ s +ℚ c *ℚ c) one_ℚ → IsNear (part 58) (v *ℚ v +ℚ k *ℚ k) one_ℚ → IsNear (part 58) (t *ℚ t +ℚ d *ℚ d) one_ℚ →
    Inside (between (negsuc 100000) 100000 (pos 100001) 100000) k → Inside (between (negsuc 2) 1000 (pos 3) 1000) t → Inside (between (negsuc 100000) 100000 (pos 100001) 100000) d →
    a ≡ u *ℚ d +ℚ w *ℚ t → b ≡ w *ℚ d -ℚ u *ℚ t → x ≡ m *ℚ (neg_ℚ s *ℚ k *ℚ a +ℚ c *ℚ b) → y ≡ m *ℚ (c *ℚ k *ℚ a +ℚ s *ℚ b) → z ≡ m *ℚ v *ℚ a →
    (ratio (pos 1069) 1000 ≤ℚ x *ℚ x +ℚ y *ℚ y +ℚ z *ℚ z) × (x *ℚ x +ℚ y *ℚ y +ℚ z *ℚ z ≤ℚ ratio (pos 121) 10)
length_within m s c v k u w t d a b x y z far near sum of_u of_w node tilt turn of_k of_t of_d a_is b_is x_is y_is z_is =
    rw (x_is, y_is, z_is, length_is m s c v k a b) (
      le_by (m ∷ factor_of s c v k a b ∷ []) (gap whole ⊗ (square m) ⊕ known 9999 10000 ⊗ gap far ⊗ (gap far ⊕ known 2068 1000) ⊕ known 122711 2500000000) (search reads depth 120) tt,
      le_by (m ∷ factor_of s c v k a b ∷ []) ((gap whole ⊕ known 9999 10000) ⊗ (gap near ⊗ (gap far ⊕ known 3434 1000)) ⊕ known 576 100 ⊗ gap part_most ⊕ known 4 1000) (search reads depth 120) tt,
    )
  where
    of_a : Inside (between (negsuc 1) 1 (pos 2) 1) a
    of_a = rw a_is (inside (negsuc 1) 1 (pos 2) 1
        (le_on (10 ^ 30) (between (negsuc 100) 100 (pos 101) 100 ∷ between (negsuc 100) 100 (pos 101) 100 ∷ between (negsuc 2) 1000 (pos 3) 1000 ∷ between (negsuc 100000) 100000 (pos 100001) 100000 ∷ []) (u ∷ w ∷ t ∷ d ∷ []) (of_u, (of_w, (of_t, (of_d, tt)))) (search reads depth 90) tt)
        (le_on (10 ^ 30) (between (negsuc 100) 100 (pos 101) 100 ∷ between (negsuc 100) 100 (pos 101) 100 ∷ between (negsuc 2) 1000 (pos 3) 1000 ∷ between (negsuc 100000) 100000 (pos 100001) 100000 ∷ []) (u ∷ w ∷ t ∷ d ∷ []) (of_u, (of_w, (of_t, (of_d, tt)))) (search reads depth 90) tt))

    of_b : Inside (between (negsuc 1) 1 (pos 2) 1) b
    of_b = rw b_is (inside (negsuc 1) 1 (pos 2) 1
        (le_on (10 ^ 30) (between (negsuc 100) 100 (pos 101) 100 ∷ between (negsuc 100) 100 (pos 101) 100 ∷ between (negsuc 2) 1000 (pos 3) 1000 ∷ between (negsuc 100000) 100000 (pos 100001) 100000 ∷ []) (u ∷ w ∷ t ∷ d ∷ []) (of_u, (of_w, (of_t, (of_d, tt)))) (search reads depth 90) tt)
        (le_on (10 ^ 30) (between (negsuc 100) 100 (pos 101) 100 ∷ between (negsuc 100) 100 (pos 101) 100 ∷ between (negsuc 2) 1000 (pos 3) 1000 ∷ between (negsuc 100000) 100000 (pos 100001) 100000 ∷ []) (u ∷ w ∷ t ∷ d ∷ []) (of_u, (of_w, (of_t, (of_d, tt)))) (search reads depth 90) tt))

    most : u *ℚ u +ℚ w *ℚ w ≤ℚ ratio (pos 3) 1
    most = le_on (10 ^ 30) (between (negsuc 100) 100 (pos 101) 100 ∷ between (negsuc 100) 100 (pos 101) 100 ∷ []) (u ∷ w ∷ []) (of_u, (of_w, tt)) (search reads depth 90) tt

    wide : Inside (between (negsuc 1) 1 (pos 2) 1) k
    wide = inside (negsuc 1) 1 (pos 2) 1 (le_on (10 ^ 30) (between (negsuc 100000) 100000 (pos 100001) 100000 ∷ []) (k ∷ []) (of_k, tt) (search reads depth 90) tt) (le_on (10 ^ 30) (between (negsuc 100000) 100000 (pos 100001) 100000 ∷ []) (k ∷ []) (of_k, tt) (search reads depth 90) tt)

    latitude_is : a *ℚ a +ℚ b *ℚ b ≡ (u *ℚ u +ℚ w *ℚ w) *ℚ (one_ℚ +ℚ (t *ℚ t +ℚ d *ℚ d -ℚ one_ℚ))
    latitude_is = rw (a_is, b_is) (turned_is u w t d ∙ ring (u ∷ w ∷ t ∷ d ∷ []) (search reads depth 200) tt)

    modest : u *ℚ u +ℚ w *ℚ w ≤ℚ ratio (pos 205) 100
    modest = le_on (10 ^ 30) (between (negsuc 100) 100 (pos 101) 100 ∷ between (negsuc 100) 100 (pos 101) 100 ∷ []) (u ∷ w ∷ []) (of_u, (of_w, tt)) (search reads depth 90) tt

    part_most : factor_of s c v k a b ≤ℚ ratio (pos 21) 10
    part_most = rw latitude_is (factor_below (u *ℚ u +ℚ w *ℚ w) (t *ℚ t +ℚ d *ℚ d -ℚ one_ℚ) (s *ℚ s +ℚ c *ℚ c -ℚ one_ℚ) (v *ℚ v +ℚ k *ℚ k -ℚ one_ℚ) a b k sum modest (near_one _ turn) (near_one _ node) (near_one _ tilt) of_a of_b wide)

    whole : ratio (pos 9999) 10000 ≤ℚ factor_of s c v k a b
    whole = rw latitude_is (factor_above (u *ℚ u +ℚ w *ℚ w) (t *ℚ t +ℚ d *ℚ d -ℚ one_ℚ) (s *ℚ s +ℚ c *ℚ c -ℚ one_ℚ) (v *ℚ v +ℚ k *ℚ k -ℚ one_ℚ) a b k sum most (near_one _ turn) (near_one _ node) (near_one _ tilt) of_a of_b wide)

-- ---- the sine of a small angle: the opposite angle has the opposite sine
pub sine_small : (pi x s c : ℚ) → IsPi pi → IsSinCos pi x s c → IsNear (ratio (pos 26) 10000) x zero_ℚ → Inside (between (negsuc 2) 1000 (pos 3) 1000) s
sine_small pi x s c is_pi pair small =
    let near = (sine_pairs_are_lipschitz pi pi x (neg_ℚ x) (ratio (pos 52) 10000) s c (neg_ℚ s) c is_pi is_pi (modest x small.above small.below) (modest (neg_ℚ x) (le_by (x ∷ []) (gap small.below) (search reads depth 90) tt) (le_by (x ∷ []) (gap small.above) (search reads depth 90) tt)) apart pair (reflection_keeps_pairs pi x s c pair)).0 in
    inside (negsuc 2) 1000 (pos 3) 1000
    (le_by (s ∷ []) (known 1 2 ⊗ gap near.below ⊕ known (4 * 2 ^ 58 - 10000) (2 ^ 58 * 10000)) (search reads depth 90) tt)
    (le_by (s ∷ []) (known 1 2 ⊗ gap near.above ⊕ known (4 * 2 ^ 58 - 10000) (2 ^ 58 * 10000)) (search reads depth 90) tt)
  where
    modest : (y : ℚ) → y ≤ℚ zero_ℚ +ℚ ratio (pos 26) 10000 → zero_ℚ ≤ℚ y +ℚ ratio (pos 26) 10000 → IsModest y
    modest y h k = record {
      low = le_by (y ∷ []) (gap k ⊕ known 10485759974 10000) (search reads depth 90) tt;
      high = le_by (y ∷ []) (gap h ⊕ known 10485759974 10000) (search reads depth 90) tt;
    }

    apart : IsNear (ratio (pos 52) 10000) x (neg_ℚ x)
    apart = record {
      above = le_by (x ∷ []) (gap small.above ⊕ gap small.above) (search reads depth 90) tt;
      below = le_by (x ∷ []) (gap small.below ⊕ gap small.below) (search reads depth 90) tt;
    }
