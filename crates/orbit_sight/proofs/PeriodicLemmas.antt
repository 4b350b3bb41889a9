-- Bounds of the periodic corrections of an orbit of an eccentricity of at most 0.2007, over plain numbers.
use Rattle.std.proofs.Common.{◌-◌, ◌*◌, ◌^◌, [], ◌∷◌, pos, negsuc}
use Rattle.exact.specs.Rational.{ℚ, ◌+ℚ◌, ◌-ℚ◌, ◌*ℚ◌, ◌/ℚ◌, ◌^ℚ◌, abs_ℚ, inverse, neg_ℚ, ratio, one_ℚ, zero_ℚ, ◌≤ℚ◌}
use Rattle.exact.proofs.RationalRing.{reads}
use Rattle.exact.proofs.Order.{◌⊕◌, ◌⊗◌, gap, known, le_by, not_negative}
use Rattle.exact.proofs.Bounds.{abs_le, abs_not_negative, abs_product, abs_sum, square}
use Rattle.exact.specs.Interval.{Inside, between}
use Rattle.exact.proofs.Intervals.{inside, le_on}
use Rattle.kepler_enc.specs.Guess.{AreSized}
use Rattle.sgp4_model.specs.Angle.{IsNear}
use Rattle.sgp4_model.specs.Numerals.{decimal, whole}
use Rattle.sgp4_model.specs.Root.{IsSqrt}
use Rattle.sgp4_model.specs.Wgs72.{j2}
use Rattle.orbit_sight.proofs.NearOrbitLemmas.{axis, eccentricity, turn, tilt, first, second, product, length, small_product, reciprocal, distance, latitude, ends, on, quotient_inside}

-- ---- the eccentricity vector
-- the long-period correction, from a divisor that is at least 1
pub tilt_inside : (d y : ℚ) → Inside reciprocal (inverse d) → Inside (between (negsuc 1172) 1000000 (pos 1173) 1000000) y → Inside tilt (one_ℚ /ℚ d *ℚ y)
tilt_inside d y h k = on (negsuc 1173) 1000000 (pos 1174) 1000000 (reciprocal ∷ between (negsuc 1172) 1000000 (pos 1173) 1000000 ∷ []) (inverse d ∷ y ∷ []) (h, (k, tt)) (search reads depth 90) tt (search reads depth 90) tt

-- its components
pub first_inside : (m c : ℚ) → Inside eccentricity m → Inside turn c → Inside first (m *ℚ c)
first_inside m c h k = on (negsuc 2007) 10000 (pos 2008) 10000 (eccentricity ∷ turn ∷ []) (m ∷ c ∷ []) (h, (k, tt)) (search reads depth 90) tt (search reads depth 90) tt

pub second_inside : (m s w : ℚ) → Inside eccentricity m → Inside turn s → Inside tilt w → Inside second (m *ℚ s +ℚ w)
second_inside m s w h k l = on (negsuc 2019) 10000 (pos 2020) 10000 (eccentricity ∷ turn ∷ tilt ∷ []) (m ∷ s ∷ w ∷ []) (h, (k, (l, tt))) (search reads depth 90) tt (search reads depth 90) tt

-- the sum of their sizes, from that of a pair's
pub sizes_below : (m s c w : ℚ) → Inside eccentricity m → Inside tilt w → AreSized 398067541563744 c s → AreSized 80304810855551 (m *ℚ c) (m *ℚ s +ℚ w)
sizes_below m s c w h k pair =
    le_by (abs_ℚ c ∷ abs_ℚ s ∷ abs_ℚ m ∷ abs_ℚ w ∷ abs_ℚ (m *ℚ c) ∷ abs_ℚ (m *ℚ s) ∷ abs_ℚ (m *ℚ s +ℚ w) ∷ [])
    (gap (abs_product m c) ⊕ gap (abs_sum (m *ℚ s) w) ⊕ gap (abs_product m s) ⊕ gap of_m ⊗ (abs_not_negative c ⊕ abs_not_negative s) ⊕ known 2007 10000 ⊗ gap pair ⊕ gap of_w ⊕ known 1284431891394829 4398046511104000000)
    (search reads depth 90) tt
  where
    of_m : abs_ℚ m ≤ℚ ratio (pos 2007) 10000
    of_m = let e = ends (pos 0) 1 (pos 2007) 10000 h in abs_le (le_by (m ∷ []) (not_negative e.0 ⊕ known 2007 10000) (search reads depth 90) tt) e.1

    of_w : abs_ℚ w ≤ℚ ratio (pos 1174) 1000000
    of_w = let e = ends (negsuc 1173) 1000000 (pos 1174) 1000000 k in abs_le (le_by (w ∷ []) (gap e.0) (search reads depth 90) tt) e.1

-- its products with a cosine d and a sine t
pub inner_inside : (x y t d : ℚ) → Inside first x → Inside second y → Inside turn t → Inside turn d → Inside product (x *ℚ d +ℚ y *ℚ t)
inner_inside x y t d h k l m =
    on (negsuc 4099) 10000 (pos 4100) 10000 (first ∷ second ∷ turn ∷ turn ∷ []) (x ∷ y ∷ t ∷ d ∷ []) (h, (k, (l, (m, tt)))) (search reads depth 90) tt (search reads depth 90) tt

pub outer_inside : (x y t d : ℚ) → Inside first x → Inside second y → Inside turn t → Inside turn d → Inside product (x *ℚ t -ℚ y *ℚ d)
outer_inside x y t d h k l m =
    on (negsuc 4099) 10000 (pos 4100) 10000 (first ∷ second ∷ turn ∷ turn ∷ []) (x ∷ y ∷ t ∷ d ∷ []) (h, (k, (l, (m, tt)))) (search reads depth 90) tt (search reads depth 90) tt

-- the square of its length
pub length_inside : (x y : ℚ) → Inside first x → Inside second y → Inside length (x ^ℚ 2 +ℚ y ^ℚ 2)
length_inside x y h k = on (negsuc 81) 1000 (pos 82) 1000 (first ∷ second ∷ []) (x ∷ y ∷ []) (h, (k, tt)) (search reads depth 90) tt (search reads depth 90) tt

-- the inner product exceeds the eccentricity of the epoch by little
pub inner_below : (e m s c t d w : ℚ) → m ≤ℚ e +ℚ ratio (pos 7) 10000 → Inside eccentricity m → Inside tilt w → Inside turn t → c *ℚ d +ℚ s *ℚ t ≤ℚ ratio (pos 10001) 10000 →
    m *ℚ c *ℚ d +ℚ (m *ℚ s +ℚ w) *ℚ t ≤ℚ e +ℚ ratio (pos 21) 10000
inner_below e m s c t d w high in_m of_w of_t pairs =
    le_by (e ∷ m ∷ s ∷ c ∷ t ∷ d ∷ w ∷ []) (gap high ⊕ not_negative of_m.0 ⊗ gap pairs ⊕ known 1 10000 ⊗ gap of_m.1 ⊕ gap tilted ⊕ known 17993 (10 ^ 8)) (search reads depth 90) tt
  where
    of_m : (zero_ℚ ≤ℚ m) × (m ≤ℚ ratio (pos 2007) 10000)
    of_m = ends (pos 0) 1 (pos 2007) 10000 in_m

    tilted : w *ℚ t ≤ℚ ratio (pos 12) 10000
    tilted = le_on (10 ^ 30) (tilt ∷ turn ∷ []) (w ∷ t ∷ []) (of_w, (of_t, tt)) (search reads depth 90) tt

-- the inner product, by the squares of the two pairs
pub inner_small : (m s c t d w : ℚ) → Inside eccentricity m → Inside tilt w → Inside turn t → IsNear (ratio (pos 10001) 10000) (c *ℚ d +ℚ s *ℚ t) zero_ℚ → Inside small_product (m *ℚ c *ℚ d +ℚ (m *ℚ s +ℚ w) *ℚ t)
inner_small m s c t d w in_m of_w of_t pairs =
    inside (negsuc 2022) 10000 (pos 2023) 10000
    (le_by (m ∷ s ∷ c ∷ t ∷ d ∷ w ∷ []) (not_negative of_m.0 ⊗ gap pairs.below ⊕ known 10001 10000 ⊗ gap of_m.1 ⊕ gap tilted.0 ⊕ known 37993 100000000) (search reads depth 90) tt)
    (le_by (m ∷ s ∷ c ∷ t ∷ d ∷ w ∷ []) (not_negative of_m.0 ⊗ gap pairs.above ⊕ known 10001 10000 ⊗ gap of_m.1 ⊕ gap tilted.1 ⊕ known 37993 100000000) (search reads depth 90) tt)
  where
    of_m : (zero_ℚ ≤ℚ m) × (m ≤ℚ ratio (pos 2007) 10000)
    of_m = ends (pos 0) 1 (pos 2007) 10000 in_m

    tilted : (ratio (negsuc 11) 10000 ≤ℚ w *ℚ t) × (w *ℚ t ≤ℚ ratio (pos 12) 10000)
    tilted = (le_on (10 ^ 30) (tilt ∷ turn ∷ []) (w ∷ t ∷ []) (of_w, (of_t, tt)) (search reads depth 90) tt, le_on (10 ^ 30) (tilt ∷ turn ∷ []) (w ∷ t ∷ []) (of_w, (of_t, tt)) (search reads depth 90) tt)

-- ---- the distance before its correction
-- from the inner product x
pub distance_from : (a e f x : ℚ) → ratio (pos 10470) 10000 ≤ℚ a *ℚ (one_ℚ -ℚ e) → ratio (pos 10470) 10000 ≤ℚ a → a ≤ℚ ratio (pos 19214) 10000 → ratio (pos 998) 1000 ≤ℚ f → f ≤ℚ ratio (pos 1002) 1000 →
    x ≤ℚ e +ℚ ratio (pos 21) 10000 → ratio (pos 1038) 1000 ≤ℚ a *ℚ f ^ℚ 2 *ℚ (one_ℚ -ℚ x)
distance_from a e f x perigee low high of_f to_f near =
    le_by (a ∷ f ∷ x ∷ []) (gap plain ⊗ (gap factor ⊕ known 996 1000) ⊕ known 10429 10000 ⊗ gap factor ⊕ known 7284 (10 ^ 7)) (search reads depth 90) tt
  where
    plain : ratio (pos 10429) 10000 ≤ℚ a *ℚ (one_ℚ -ℚ x)
    plain =
        le_by (a ∷ e ∷ x ∷ []) ((gap low ⊕ known 10470 10000) ⊗ gap near ⊕ gap perigee ⊕ known 21 10000 ⊗ gap high ⊕ known 6506 (10 ^ 8)) (search reads depth 90) tt

    factor : ratio (pos 996) 1000 ≤ℚ f ^ℚ 2
    factor = le_on (10 ^ 30) (between (pos 998) 1000 (pos 1002) 1000 ∷ []) (f ∷ []) (inside (pos 998) 1000 (pos 1002) 1000 of_f to_f, tt) (search reads depth 90) tt

pub distance_inside : (a x : ℚ) → Inside axis a → Inside product x → ratio (pos 1038) 1000 ≤ℚ a *ℚ (one_ℚ -ℚ x) → Inside distance (a *ℚ (one_ℚ -ℚ x))
distance_inside a x h k low =
    inside (pos 1038) 1000 (pos 2800) 1000 low (le_on (10 ^ 30) (axis ∷ product ∷ []) (a ∷ x ∷ []) (h, (k, tt)) (search reads depth 90) tt)

-- ---- its correction
-- the square root of 1 less the square of the eccentricity
pub root_inside : (x b : ℚ) → Inside length x → IsSqrt (one_ℚ -ℚ x) b → Inside (between (pos 0) 1 (pos 105) 100) b
root_inside x b h root =
    inside (pos 0) 1 (pos 105) 100 root.root
    (le_by (x ∷ b ∷ []) (known 1 2 ⊗ (square (b -ℚ one_ℚ) ⊕ gap root.square.above ⊕ gap low) ⊕ known (2 ^ 60 * 18 - 1000) (2 ^ 61 * 1000)) (search reads depth 90) tt)
  where
    low : ratio (negsuc 81) 1000 ≤ℚ x
    low = (ends (negsuc 81) 1000 (pos 82) 1000 h).0

-- the semilatus rectum
pub rectum_above : (a x : ℚ) → Inside axis a → Inside length x → ratio (pos 95) 100 ≤ℚ a *ℚ (one_ℚ -ℚ x)
rectum_above a x h k = le_on (10 ^ 30) (axis ∷ length ∷ []) (a ∷ x ∷ []) (h, (k, tt)) (search reads depth 90) tt

-- the two factors
pub factors_inside : (p : ℚ) → ratio (pos 95) 100 ≤ℚ p →
    Inside (between (pos 0) 1 (pos 58) 100000) (decimal 5 1 *ℚ j2 /ℚ p) × Inside (between (pos 0) 1 (pos 62) 100000) (decimal 5 1 *ℚ j2 /ℚ p /ℚ p)
factors_inside p above = (
  inside (pos 0) 1 (pos 58) 100000 one.0 one.1,
  inside (pos 0) 1 (pos 62) 100000 two.0 two.1,
)
  where
    one : (zero_ℚ ≤ℚ decimal 5 1 *ℚ j2 /ℚ p) × (decimal 5 1 *ℚ j2 /ℚ p ≤ℚ ratio (pos 58) 100000)
    one = quotient_inside above (le_on (10 ^ 30) [] [] tt (search reads depth 90) tt) (le_on (10 ^ 30) [] [] tt (search reads depth 90) tt) (le_on (10 ^ 30) [] [] tt (search reads depth 90) tt)

    high : decimal 5 1 *ℚ j2 /ℚ p ≤ℚ ratio (pos 62) 100000 *ℚ ratio (pos 95) 100
    high = le_by ((decimal 5 1 *ℚ j2 /ℚ p) ∷ []) (gap one.1 ⊕ known 9 1000000) (search reads depth 90) tt

    two : (zero_ℚ ≤ℚ decimal 5 1 *ℚ j2 /ℚ p /ℚ p) × (decimal 5 1 *ℚ j2 /ℚ p /ℚ p ≤ℚ ratio (pos 62) 100000)
    two = quotient_inside above one.0 high (le_on (10 ^ 30) [] [] tt (search reads depth 90) tt)

-- what is added to the argument of latitude, from its sine u and its cosine w
pub change_small : (k2 c u w : ℚ) → Inside (between (pos 0) 1 (pos 62) 100000) k2 → Inside turn c → Inside latitude u → Inside latitude w →
    IsNear (ratio (pos 26) 10000) (neg_ℚ (decimal 25 2) *ℚ k2 *ℚ (whole 7 *ℚ c ^ℚ 2 -ℚ one_ℚ) *ℚ (whole 2 *ℚ u *ℚ w)) zero_ℚ
change_small k2 c u w h i j l = record {
  above = le_on (10 ^ 30) (between (pos 0) 1 (pos 62) 100000 ∷ turn ∷ latitude ∷ latitude ∷ []) (k2 ∷ c ∷ u ∷ w ∷ []) (h, (i, (j, (l, tt)))) (search reads depth 90) tt;
  below = le_on (10 ^ 30) (between (pos 0) 1 (pos 62) 100000 ∷ turn ∷ latitude ∷ latitude ∷ []) (k2 ∷ c ∷ u ∷ w ∷ []) (h, (i, (j, (l, tt)))) (search reads depth 90) tt;
}

-- it is at most 2.4 where r is at most 2.33
pub corrected_below : (r k1 k2 b con41 c u : ℚ) → Inside (between (pos 1038) 1000 (pos 2330) 1000) r → Inside (between (pos 0) 1 (pos 58) 100000) k1 → Inside (between (pos 0) 1 (pos 62) 100000) k2 → Inside (between (pos 0) 1 (pos 105) 100) b →
    Inside (between (negsuc 1000) 1000 (pos 2001) 1000) con41 → Inside turn c → Inside latitude u →
    r *ℚ (one_ℚ -ℚ decimal 15 1 *ℚ k2 *ℚ b *ℚ con41) +ℚ decimal 5 1 *ℚ k1 *ℚ (one_ℚ -ℚ c ^ℚ 2) *ℚ (one_ℚ -ℚ whole 2 *ℚ u ^ℚ 2) ≤ℚ ratio (pos 24) 10
corrected_below r k1 k2 b con41 c u h i j l m n o =
    le_on (10 ^ 30)
    (between (pos 1038) 1000 (pos 2330) 1000 ∷ between (pos 0) 1 (pos 58) 100000 ∷ between (pos 0) 1 (pos 62) 100000 ∷ between (pos 0) 1 (pos 105) 100 ∷ between (negsuc 1000) 1000 (pos 2001) 1000 ∷ turn ∷ latitude ∷ [])
    (r ∷ k1 ∷ k2 ∷ b ∷ con41 ∷ c ∷ u ∷ []) (h, (i, (j, (l, (m, (n, (o, tt))))))) (search reads depth 90) tt

-- the axis of the mean elements and the inner product leave a distance of at most 2.33
pub distance_most : (a p : ℚ) → Inside axis a → Inside small_product p → a *ℚ (one_ℚ -ℚ p) ≤ℚ ratio (pos 2330) 1000
distance_most a p i j = le_on (10 ^ 30) (axis ∷ small_product ∷ []) (a ∷ p ∷ []) (i, (j, tt)) (search reads depth 90) tt

-- the distance: r before, the factors k1 and k2, the square root b, the cosine c of the inclination, and u as that sine
pub corrected_above : (r k1 k2 b con41 c u : ℚ) → Inside distance r → Inside (between (pos 0) 1 (pos 58) 100000) k1 → Inside (between (pos 0) 1 (pos 62) 100000) k2 → Inside (between (pos 0) 1 (pos 105) 100) b →
    Inside (between (negsuc 1000) 1000 (pos 2001) 1000) con41 → Inside turn c → Inside latitude u →
    ratio (pos 1034) 1000 ≤ℚ r *ℚ (one_ℚ -ℚ decimal 15 1 *ℚ k2 *ℚ b *ℚ con41) +ℚ decimal 5 1 *ℚ k1 *ℚ (one_ℚ -ℚ c ^ℚ 2) *ℚ (one_ℚ -ℚ whole 2 *ℚ u ^ℚ 2)
corrected_above r k1 k2 b con41 c u h i j l m n o =
    le_on (10 ^ 30)
    (distance ∷ between (pos 0) 1 (pos 58) 100000 ∷ between (pos 0) 1 (pos 62) 100000 ∷ between (pos 0) 1 (pos 105) 100 ∷ between (negsuc 1000) 1000 (pos 2001) 1000 ∷ turn ∷ latitude ∷ [])
    (r ∷ k1 ∷ k2 ∷ b ∷ con41 ∷ c ∷ u ∷ []) (h, (i, (j, (l, (m, (n, (o, tt))))))) (search reads depth 90) tt
