-- How far a station is from a position that is far out: the station lies within 1.00142 Earth radii of the Earth's centre.
use Rattle.std.proofs.Common.{◌≡◌, ◌∙◌, refl, [], ◌∷◌, ap, sym, subst, ◌*◌, ◌-◌, ◌^◌, pos, negsuc}
use Rattle.exact.specs.Rational.{ℚ, ◌+ℚ◌, ◌-ℚ◌, ◌*ℚ◌, ◌/ℚ◌, ◌^ℚ◌, inverse, neg_ℚ, one_ℚ, ratio, zero_ℚ, ◌≤ℚ◌}
use Rattle.exact.proofs.RationalRing.{ring, reads}
use Rattle.exact.proofs.Order.{NonNeg, gap, known, le_by, le_trans, not_negative, same_sign, ◌⊕◌, ◌⊗◌}
use Rattle.exact.proofs.Bounds.{by_sign, square}
use Rattle.exact.proofs.Strict.{Positive, mul_inverse, not_both, positive_known, positive_sum}
use Rattle.sgp4_model.specs.Angle.{IsNear, Pair, part}
use Rattle.sgp4_model.specs.LocalAxes.{difference}
use Rattle.sgp4_model.specs.Numerals.{IsDivisor}
use Rattle.sgp4_model.specs.Root.{IsSqrt}
use Rattle.sgp4_model.specs.Sidereal.{earth_fixed}
use Rattle.sgp4_model.specs.StationPlace.{IsStationPlace, in_km}
use Rattle.sgp4_model.specs.Vector.{Vector, inner_product}
use Rattle.sgp4_model.specs.Wgs72.{earth_radius_km}
use Rattle.sgp4_model.specs.Wgs84.{axes_squared, equator_km}

-- the squares of the numbers of a pair add up to 1, to 2^-58
abbrev pub IsUnitPair : Pair → Type 0
IsUnitPair p = IsNear (part 58) (p.sine *ℚ p.sine +ℚ p.cosine *ℚ p.cosine) one_ℚ

-- ---- the root r of the number under it, which is made of the pair of the latitude, and its inverse d
module _ (s c r d : ℚ) (unit : IsNear (part 58) (s *ℚ s +ℚ c *ℚ c) one_ℚ) (root : zero_ℚ ≤ℚ r) (near : IsNear (part 60) (r *ℚ r) (c *ℚ c +ℚ axes_squared *ℚ (s *ℚ s))) (over : d *ℚ r ≡ one_ℚ) where
  under : ℚ
  under = c *ℚ c +ℚ axes_squared *ℚ (s *ℚ s)

  inverse_not_negative : zero_ℚ ≤ℚ d
  inverse_not_negative = by_sign d (λ n. le_by (d ∷ []) n (search reads depth 90) tt) (λ n. absurd (not_both (positive_known 0 1) (below n)))
    where
      below : NonNeg (neg_ℚ d) → NonNeg (neg_ℚ (ratio (pos 1) 1))
      below n = same_sign (ring (d ∷ r ∷ []) {y = neg_ℚ (d *ℚ r)} (search reads depth 90) tt ∙ ap neg_ℚ over) (n ⊗ not_negative root)

  square_above : ratio (pos 99) 100 ≤ℚ r *ℚ r
  square_above =
      le_by (r ∷ s ∷ c ∷ [])
      (gap near.below ⊕ known 595514447126000000000 88957371407509362414969 ⊗ square c ⊕ known 88361856960383362414969 88957371407509362414969 ⊗ gap unit.below ⊕ known 2825227104121125392495885655392232274937 854673887408465023675858765554899956531200)
      (search reads depth 90) tt

  root_most : r ≤ℚ ratio (pos 10001) 10000
  root_most =
      le_by (r ∷ s ∷ c ∷ [])
      (known 1 2 ⊗ (gap near.above ⊕ known 595514447126000000000 88957371407509362414969 ⊗ square s ⊕ gap unit.above ⊕ square (r -ℚ one_ℚ)) ⊕ known 144115188075852747 1441151880758558720000)
      (search reads depth 90) tt

  -- d^2 r^2 is 1, and d r^2 is r
  squares_are : d *ℚ r *ℚ (d *ℚ r) ≡ one_ℚ
  squares_are = rw over (ring [] (search reads depth 90) tt)

  one_less : d *ℚ r *ℚ r ≡ r
  one_less = rw over (ring (r ∷ []) (search reads depth 90) tt)

  same : {x y : ℚ} → x ≡ y → x ≤ℚ y
  same {x} {y} e = rw e (le_by (y ∷ []) (known 0 1) (search reads depth 90) tt)

  inverse_square : d *ℚ d ≤ℚ ratio (pos 100) 99
  inverse_square = le_by (d ∷ r ∷ []) (known 100 99 ⊗ (gap square_above ⊗ square d ⊕ gap (same squares_are))) (search reads depth 90) tt

  inverse_most : d ≤ℚ ratio (pos 102) 100
  inverse_most = le_by (d ∷ []) (known 1 2 ⊗ (gap inverse_square ⊕ square (d -ℚ one_ℚ)) ⊕ known 37 2475) (search reads depth 90) tt

  twice_over : d *ℚ d *ℚ (c *ℚ c +ℚ axes_squared *ℚ (s *ℚ s)) ≤ℚ ratio (pos 1000001) 1000000
  twice_over =
      le_by (d ∷ r ∷ s ∷ c ∷ [])
      (square d ⊗ gap near.below ⊕ known 1 1152921504606846976 ⊗ gap inverse_square ⊕ gap (same squares_are) ⊕ known 445856363109288479 445856363109679104000000)
      (search reads depth 90) tt

  once_over : d *ℚ (c *ℚ c +ℚ axes_squared *ℚ (s *ℚ s)) ≤ℚ ratio (pos 10002) 10000
  once_over =
      le_by (d ∷ r ∷ s ∷ c ∷ [])
      (not_negative inverse_not_negative ⊗ gap near.below ⊕ known 1 1152921504606846976 ⊗ gap inverse_most ⊕ gap root_most ⊕ gap (same one_less) ⊕ known 144115188075854597 1441151880758558720000)
      (search reads depth 90) tt

  -- ---- the place, at a height of h Earth radii, and a pair of the longitude
  module _ (h k l : ℚ) (low : ratio (negsuc 14110) 10000000 ≤ℚ h) (high : h ≤ℚ ratio (pos 14111) 10000000) (along : IsNear (part 58) (l *ℚ l +ℚ k *ℚ k) one_ℚ) where
    abbrev level : ℚ
    level = ratio (pos 6378137) 6378135 *ℚ d +ℚ h

    abbrev axial : ℚ
    axial = ratio (pos 6378137) 6378135 *ℚ axes_squared *ℚ d +ℚ h

    -- without the longitude
    upright : level *ℚ level *ℚ (c *ℚ c) +ℚ axial *ℚ axial *ℚ (s *ℚ s) ≤ℚ ratio (pos 163182340316312834243586437524409) 162722424312900000000000000000000
    upright =
        le_by (d ∷ s ∷ c ∷ h ∷ [])
        (known 40680631590769 40680606078225 ⊗ gap twice_over
        ⊕ known 85625833960312751866602995758958962575190337331440000000 12876898989122736177209351360690487016084817438449537476969 ⊗ (square d ⊗ square s)
        ⊕ known 90001891207 31890675000000 ⊗ gap once_over
        ⊕ known 12756274 6378135 ⊗ (gap high ⊗ (not_negative inverse_not_negative ⊗ positive_under))
        ⊕ known 199120321 100000000000000 ⊗ gap unit_most ⊕ gap high ⊗ gap low ⊗ (square s ⊕ square c))
        (search reads depth 150) tt
      where
        positive_under : NonNeg (c *ℚ c +ℚ axes_squared *ℚ (s *ℚ s))
        positive_under = same_sign (ring (s ∷ c ∷ []) (search reads depth 90) tt) (square c ⊕ known 88361856960383362414969 88957371407509362414969 ⊗ square s)

        unit_most : s *ℚ s +ℚ c *ℚ c ≤ℚ ratio (pos 1000001) 1000000
        unit_most = le_by (s ∷ c ∷ []) (gap unit.above ⊕ known (2 ^ 58 - 1000000) (1000000 * 2 ^ 58)) (search reads depth 90) tt

    -- the square of the place
    pub place_most : level *ℚ c *ℚ k *ℚ (level *ℚ c *ℚ k) +ℚ level *ℚ c *ℚ l *ℚ (level *ℚ c *ℚ l) +ℚ axial *ℚ s *ℚ (axial *ℚ s) ≤ℚ ratio (pos 100283) 100000
    place_most = le_trans turned (le_by ((level *ℚ level *ℚ (c *ℚ c) +ℚ axial *ℚ axial *ℚ (s *ℚ s)) ∷ []) (known 288230376151711745 288230376151711744 ⊗ gap upright ⊕ known 33922259127832188201856844607851410886103259 9380309113605122286163612139520000000000000000000) (search reads depth 90) tt)
      where
        turned :
            level *ℚ c *ℚ k *ℚ (level *ℚ c *ℚ k) +ℚ level *ℚ c *ℚ l *ℚ (level *ℚ c *ℚ l) +ℚ axial *ℚ s *ℚ (axial *ℚ s) ≤ℚ
            ratio (pos 288230376151711745) 288230376151711744 *ℚ (level *ℚ level *ℚ (c *ℚ c) +ℚ axial *ℚ axial *ℚ (s *ℚ s))
        turned = le_by (level ∷ axial ∷ s ∷ c ∷ k ∷ l ∷ []) (square (level *ℚ c) ⊗ gap along.above ⊕ known 1 (2 ^ 58) ⊗ square (axial *ℚ s)) (search reads depth 150) tt

-- ---- the place of a station
radius_inverse : inverse earth_radius_km ≡ ratio (pos 1000) 6378135
unfolding inverse ratio
radius_inverse = refl

-- the square of each place is at most 1.00283, at a height from -500 to 9000 metres
pub place_square_most : {lat lon : Pair} {metres : ℚ} {place : Vector} → IsUnitPair lat → IsUnitPair lon → neg_ℚ (ratio (pos 500) 1) ≤ℚ metres → metres ≤ℚ ratio (pos 9000) 1 →
    IsStationPlace lat lon (in_km metres) place → inner_product place place ≤ℚ ratio (pos 100283) 100000
place_square_most {lat} {lon} {metres} {place} unit along low high is =
    rw (is.x, is.y, is.z, level_is is.c metres lat.cosine lon.cosine, level_is is.c metres lat.cosine lon.sine, axial_is is.c metres lat.sine)
    (place_most lat.sine lat.cosine is.root is.c unit is.root_is.root
    (subst (IsNear (part 60) (is.root *ℚ is.root)) (under_is lat.sine lat.cosine) is.root_is.square)
    (rw is.c_is (ring (is.root ∷ inverse is.root ∷ []) {y = is.root *ℚ inverse is.root} (search reads depth 90) tt ∙ mul_inverse is.root is.root_divides))
    (metres *ℚ ratio (pos 1) 6378135) lon.cosine lon.sine
    (le_by (metres ∷ []) (known 1 6378135 ⊗ gap low ⊕ known 17000372597 12756270000000) (search reads depth 90) tt)
    (le_by (metres ∷ []) (known 1 6378135 ⊗ gap high ⊕ known 124199 4252090000000) (search reads depth 90) tt)
    along)
  where
    under_is : (s c : ℚ) → c ^ℚ 2 +ℚ axes_squared *ℚ s ^ℚ 2 ≡ c *ℚ c +ℚ axes_squared *ℚ (s *ℚ s)
    under_is s c = ring (s ∷ c ∷ []) (search reads depth 90) tt

    level_is : (d m c k : ℚ) → (equator_km *ℚ d +ℚ in_km m) *ℚ c *ℚ k /ℚ earth_radius_km ≡ (ratio (pos 6378137) 6378135 *ℚ d +ℚ m *ℚ ratio (pos 1) 6378135) *ℚ c *ℚ k
    level_is d m c k = ap (λ t. (equator_km *ℚ d +ℚ in_km m) *ℚ c *ℚ k *ℚ t) radius_inverse ∙ ring (d ∷ m ∷ c ∷ k ∷ []) (search reads depth 90) tt

    axial_is : (d m s : ℚ) → (equator_km *ℚ axes_squared *ℚ d +ℚ in_km m) *ℚ s /ℚ earth_radius_km ≡ (ratio (pos 6378137) 6378135 *ℚ axes_squared *ℚ d +ℚ m *ℚ ratio (pos 1) 6378135) *ℚ s
    axial_is d m s = ap (λ t. (equator_km *ℚ axes_squared *ℚ d +ℚ in_km m) *ℚ s *ℚ t) radius_inverse ∙ ring (d ∷ m ∷ s ∷ []) (search reads depth 90) tt

-- ---- the vector from a station to a position whose square is at least 1.069
rotated_square : (turn : Pair) (r : Vector) → IsUnitPair turn → ratio (pos 1069) 1000 ≤ℚ r.x *ℚ r.x +ℚ r.y *ℚ r.y +ℚ r.z *ℚ r.z →
    ratio (pos 10689) 10000 ≤ℚ inner_product (earth_fixed turn r) (earth_fixed turn r)
rotated_square turn r unit far = on turn.sine turn.cosine r.x r.y r.z unit far
  where
    on : (s c x y z : ℚ) → IsNear (part 58) (s *ℚ s +ℚ c *ℚ c) one_ℚ → ratio (pos 1069) 1000 ≤ℚ x *ℚ x +ℚ y *ℚ y +ℚ z *ℚ z →
        ratio (pos 10689) 10000 ≤ℚ (x *ℚ c +ℚ y *ℚ s) *ℚ (x *ℚ c +ℚ y *ℚ s) +ℚ (neg_ℚ x *ℚ s +ℚ y *ℚ c) *ℚ (neg_ℚ x *ℚ s +ℚ y *ℚ c) +ℚ z *ℚ z
    on s c x y z unit far =
        le_by (s ∷ c ∷ x ∷ y ∷ z ∷ [])
        ((square x ⊕ square y) ⊗ gap unit.below ⊕ known 288230376151711743 288230376151711744 ⊗ gap far ⊕ known 1 288230376151711744 ⊗ square z ⊕ known 144115188075850527 1441151880758558720000)
        (search reads depth 120) tt

apart : (u v : Vector) → ratio (pos 10689) 10000 ≤ℚ inner_product u u → inner_product v v ≤ℚ ratio (pos 100283) 100000 → ratio (pos 105) 100000 ≤ℚ inner_product (difference u v) (difference u v)
apart u v far near =
    le_by (u.x ∷ u.y ∷ u.z ∷ v.x ∷ v.y ∷ v.z ∷ [])
    (known 31 1000 ⊗ gap far ⊕ known 31 969 ⊗ gap near
    ⊕ known 1000 969 ⊗ (square (ratio (pos 969) 1000 *ℚ u.x -ℚ v.x) ⊕ square (ratio (pos 969) 1000 *ℚ u.y -ℚ v.y) ⊕ square (ratio (pos 969) 1000 *ℚ u.z -ℚ v.z))
    ⊕ known 2063 570000000)
    (search reads depth 150) tt

pub toward_square_least : (lat lon turn : Pair) (metres : ℚ) (place r : Vector) → IsUnitPair lat → IsUnitPair lon → IsUnitPair turn → neg_ℚ (ratio (pos 500) 1) ≤ℚ metres → metres ≤ℚ ratio (pos 9000) 1 →
    IsStationPlace lat lon (in_km metres) place → ratio (pos 1069) 1000 ≤ℚ r.x *ℚ r.x +ℚ r.y *ℚ r.y +ℚ r.z *ℚ r.z →
    ratio (pos 105) 100000 ≤ℚ inner_product (difference (earth_fixed turn r) place) (difference (earth_fixed turn r) place)
toward_square_least lat lon turn metres place r of_lat of_lon unit low high is far =
    apart (earth_fixed turn r) place (rotated_square turn r unit far) (place_square_most of_lat of_lon low high is)

-- a root of at least 0.00105 is at least 0.0323
pub range_least : {q range : ℚ} → ratio (pos 105) 100000 ≤ℚ q → IsSqrt q range → ratio (pos 323) 10000 ≤ℚ range
range_least {q} {range} least is = by_sign (range -ℚ ratio (pos 323) 10000) (λ n. le_by (range ∷ []) n (search reads depth 90) tt) (λ n. absurd (not_both (positive_known 5 1000000) (low n)))
  where
    low : NonNeg (neg_ℚ (range -ℚ ratio (pos 323) 10000)) → NonNeg (neg_ℚ (ratio (pos 6) 1000000))
    low n =
        same_sign (ring (q ∷ range ∷ []) (search reads depth 90) tt)
        (n ⊗ (not_negative is.root ⊕ known 323 10000) ⊕ gap least ⊕ gap is.square.below ⊕ known 319755573542914591 450359962737049600000000)
