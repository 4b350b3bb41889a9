-- How long a station's place is, and how far a position is from it.
use Rattle.std.proofs.Common.{◌≡◌, [], ◌∷◌, pos}
use Rattle.exact.specs.Rational.{ℚ, ◌+ℚ◌, ◌-ℚ◌, ◌*ℚ◌, neg_ℚ, one_ℚ, ratio, zero_ℚ, ◌≤ℚ◌}
use Rattle.exact.proofs.RationalRing.{ring, reads}
use Rattle.exact.proofs.Order.{NonNeg, gap, known, le_by, ◌⊕◌, ◌⊗◌}
use Rattle.exact.proofs.Bounds.{square}
use Rattle.sgp4_model.specs.Angle.{IsNear, Pair, part}
use Rattle.sgp4_model.specs.LocalAxes.{difference}
use Rattle.sgp4_model.specs.Sidereal.{earth_fixed}
use Rattle.sgp4_model.specs.Vector.{Vector, inner_product}

-- ---- a rotation
-- the square of the rotated vector
turned : (x y z s c : ℚ) →
    (x *ℚ c +ℚ y *ℚ s) *ℚ (x *ℚ c +ℚ y *ℚ s) +ℚ (neg_ℚ x *ℚ s +ℚ y *ℚ c) *ℚ (neg_ℚ x *ℚ s +ℚ y *ℚ c) +ℚ z *ℚ z
    ≡ (x *ℚ x +ℚ y *ℚ y) *ℚ (s *ℚ s +ℚ c *ℚ c) +ℚ z *ℚ z
turned x y z s c = ring (x ∷ y ∷ z ∷ s ∷ c ∷ []) (search reads depth 90) tt

pub turned_least : (r : Vector) (pair : Pair) (l : ℚ) → IsNear (part 58) (pair.sine *ℚ pair.sine +ℚ pair.cosine *ℚ pair.cosine) one_ℚ → NonNeg l → l ≤ℚ inner_product r r →
    l *ℚ (one_ℚ -ℚ part 58) ≤ℚ inner_product (earth_fixed pair r) (earth_fixed pair r)
turned_least r pair l near least h = rw (turned r.x r.y r.z pair.sine pair.cosine) (by r.x r.y r.z (pair.sine *ℚ pair.sine +ℚ pair.cosine *ℚ pair.cosine) near h)
  where
    by : (x y z u : ℚ) → IsNear (part 58) u one_ℚ → l ≤ℚ x *ℚ x +ℚ y *ℚ y +ℚ z *ℚ z → l *ℚ (one_ℚ -ℚ part 58) ≤ℚ (x *ℚ x +ℚ y *ℚ y) *ℚ u +ℚ z *ℚ z
    by x y z u k h =
        le_by (x ∷ y ∷ z ∷ u ∷ l ∷ [])
        ((square x ⊕ square y) ⊗ gap k.below ⊕ known 288230376151711743 288230376151711744 ⊗ gap h ⊕ known 1 288230376151711744 ⊗ square z)
        (search reads depth 90) tt

pub turned_most : (r : Vector) (pair : Pair) (m : ℚ) → IsNear (part 58) (pair.sine *ℚ pair.sine +ℚ pair.cosine *ℚ pair.cosine) one_ℚ → inner_product r r ≤ℚ m →
    inner_product (earth_fixed pair r) (earth_fixed pair r) ≤ℚ m *ℚ (one_ℚ +ℚ part 58)
turned_most r pair m near h = rw (turned r.x r.y r.z pair.sine pair.cosine) (by r.x r.y r.z (pair.sine *ℚ pair.sine +ℚ pair.cosine *ℚ pair.cosine) near h)
  where
    by : (x y z u : ℚ) → IsNear (part 58) u one_ℚ → x *ℚ x +ℚ y *ℚ y +ℚ z *ℚ z ≤ℚ m → (x *ℚ x +ℚ y *ℚ y) *ℚ u +ℚ z *ℚ z ≤ℚ m *ℚ (one_ℚ +ℚ part 58)
    by x y z u k h =
        le_by (x ∷ y ∷ z ∷ u ∷ m ∷ [])
        ((square x ⊕ square y) ⊗ gap k.above ⊕ known 288230376151711745 288230376151711744 ⊗ gap h ⊕ known 1 288230376151711744 ⊗ square z)
        (search reads depth 90) tt

-- ---- the distance of two points
-- of a point at least 1.0199 away from the centre and one at most 1.00142 away: at least 0.0183
pub apart_least : (a p : Vector) → ratio (pos 10399999) 10000000 ≤ℚ inner_product a a → inner_product p p ≤ℚ ratio (pos 1002842) 1000000 →
    ratio (pos 335) 1000000 ≤ℚ inner_product (difference a p) (difference a p)
apart_least a p h k = by a.x a.y a.z p.x p.y p.z h k
  where
    by : (x y z u v w : ℚ) → ratio (pos 10399999) 10000000 ≤ℚ x *ℚ x +ℚ y *ℚ y +ℚ z *ℚ z → u *ℚ u +ℚ v *ℚ v +ℚ w *ℚ w ≤ℚ ratio (pos 1002842) 1000000 →
        ratio (pos 335) 1000000 ≤ℚ (x -ℚ u) *ℚ (x -ℚ u) +ℚ (y -ℚ v) *ℚ (y -ℚ v) +ℚ (z -ℚ w) *ℚ (z -ℚ w)
    by x y z u v w h k =
        le_by (x ∷ y ∷ z ∷ u ∷ v ∷ w ∷ [])
        (known 982 1000 ⊗ (square (x -ℚ ratio (pos 500) 491 *ℚ u) ⊕ square (y -ℚ ratio (pos 500) 491 *ℚ v) ⊕ square (z -ℚ ratio (pos 500) 491 *ℚ w))
        ⊕ known 18 1000 ⊗ gap h ⊕ known 9 491 ⊗ gap k ⊕ known 7280581 2455000000000)
        (search reads depth 90) tt

-- of a point at least 1.0339 away: at least 0.0325
pub far_least : (a p : Vector) → ratio (pos 10689999) 10000000 ≤ℚ inner_product a a → inner_product p p ≤ℚ ratio (pos 1002842) 1000000 →
    ratio (pos 1056300) 1000000000 ≤ℚ inner_product (difference a p) (difference a p)
far_least a p h k = by a.x a.y a.z p.x p.y p.z h k
  where
    by : (x y z u v w : ℚ) → ratio (pos 10689999) 10000000 ≤ℚ x *ℚ x +ℚ y *ℚ y +ℚ z *ℚ z → u *ℚ u +ℚ v *ℚ v +ℚ w *ℚ w ≤ℚ ratio (pos 1002842) 1000000 →
        ratio (pos 1056300) 1000000000 ≤ℚ (x -ℚ u) *ℚ (x -ℚ u) +ℚ (y -ℚ v) *ℚ (y -ℚ v) +ℚ (z -ℚ w) *ℚ (z -ℚ w)
    by x y z u v w h k =
        le_by (x ∷ y ∷ z ∷ u ∷ v ∷ w ∷ [])
        (known 9686 10000 ⊗ (square (x -ℚ ratio (pos 10000) 9686 *ℚ u) ⊕ square (y -ℚ ratio (pos 10000) 9686 *ℚ v) ⊕ square (z -ℚ ratio (pos 10000) 9686 *ℚ w))
        ⊕ known 314 10000 ⊗ gap h ⊕ known 314 9686 ⊗ gap k ⊕ known 58684649 242150000000000)
        (search reads depth 90) tt

-- at most twice the sum of the squares
pub apart_most : (a p : Vector) (m : ℚ) → inner_product a a ≤ℚ m → inner_product p p ≤ℚ ratio (pos 1002842) 1000000 →
    inner_product (difference a p) (difference a p) ≤ℚ ratio (pos 2) 1 *ℚ m +ℚ ratio (pos 2005684) 1000000
apart_most a p m h k = by a.x a.y a.z p.x p.y p.z h k
  where
    by : (x y z u v w : ℚ) → x *ℚ x +ℚ y *ℚ y +ℚ z *ℚ z ≤ℚ m → u *ℚ u +ℚ v *ℚ v +ℚ w *ℚ w ≤ℚ ratio (pos 1002842) 1000000 →
        (x -ℚ u) *ℚ (x -ℚ u) +ℚ (y -ℚ v) *ℚ (y -ℚ v) +ℚ (z -ℚ w) *ℚ (z -ℚ w) ≤ℚ ratio (pos 2) 1 *ℚ m +ℚ ratio (pos 2005684) 1000000
    by x y z u v w h k =
        le_by (x ∷ y ∷ z ∷ u ∷ v ∷ w ∷ m ∷ [])
        (square (x +ℚ u) ⊕ square (y +ℚ v) ⊕ square (z +ℚ w) ⊕ known 2 1 ⊗ gap h ⊕ known 2 1 ⊗ gap k)
        (search reads depth 90) tt

-- numbers of at most 4 in size
pub squares_most : (x y z : ℚ) → IsNear (ratio (pos 4) 1) x zero_ℚ → IsNear (ratio (pos 4) 1) y zero_ℚ → IsNear (ratio (pos 4) 1) z zero_ℚ →
    x *ℚ x +ℚ y *ℚ y +ℚ z *ℚ z ≤ℚ ratio (pos 48) 1
squares_most x y z h k l =
    le_by (x ∷ y ∷ z ∷ []) (gap h.above ⊗ gap h.below ⊕ gap k.above ⊗ gap k.below ⊕ gap l.above ⊗ gap l.below) (search reads depth 90) tt
