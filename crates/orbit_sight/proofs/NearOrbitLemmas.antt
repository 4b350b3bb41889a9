-- Bounds of the quantities of an orbit of an eccentricity of at most 0.2007, over plain numbers.
use Rattle.std.proofs.Common.{◌-◌, ◌*◌, ◌^◌, ℕ, List, [], ◌∷◌, ℤ, pos, negsuc, subst}
use Rattle.exact.specs.Rational.{ℚ, ◌+ℚ◌, ◌-ℚ◌, ◌*ℚ◌, ◌/ℚ◌, ◌^ℚ◌, inverse, ratio, one_ℚ, zero_ℚ, ◌≤ℚ◌}
use Rattle.exact.proofs.RationalRing.{Sides, difference, ring, reads}
use Rattle.exact.proofs.Order.{◌⊕◌, ◌⊗◌, gap, known, le_by, not_negative}
use Rattle.exact.proofs.Bounds.{by_sign, square}
use Rattle.exact.proofs.Strict.{Positive, positive_known, positive_sum, le_quotient, quotient_le, positive_above}
use Rattle.exact.specs.Interval.{Inside, Interval, between}
use Rattle.exact.proofs.Intervals.{AllInside, NotBelow0, inside, le_on, range}
use Rattle.sgp4_model.specs.Angle.{IsNear, part}

-- ---- the intervals
-- the semimajor axis, its eccentricity, a sine or a cosine
abbrev pub axis : Interval
axis = between (pos 10428) 10000 (pos 19300) 10000

abbrev pub eccentricity : Interval
eccentricity = between (pos 0) 1 (pos 2007) 10000

abbrev pub turn : Interval
turn = between (negsuc 100000) 100000 (pos 100001) 100000

-- the long-period correction, and the two components of the eccentricity vector
abbrev pub tilt : Interval
tilt = between (negsuc 1173) 1000000 (pos 1174) 1000000

abbrev pub first : Interval
first = between (negsuc 2007) 10000 (pos 2008) 10000

abbrev pub second : Interval
second = between (negsuc 2019) 10000 (pos 2020) 10000

-- an inner or outer product of that vector with a sine and a cosine, and the square of its length
abbrev pub product : Interval
product = between (negsuc 4099) 10000 (pos 4100) 10000

abbrev pub length : Interval
length = between (negsuc 81) 1000 (pos 82) 1000

-- the inner product, by the squares of sine and cosine
abbrev pub small_product : Interval
small_product = between (negsuc 2022) 10000 (pos 2023) 10000

-- a reciprocal of a number that is at least 1, the distance, the sine and the cosine of the argument of latitude
abbrev pub reciprocal : Interval
reciprocal = between (pos 0) 1 (pos 1) 1

abbrev pub distance : Interval
distance = between (pos 1038) 1000 (pos 2800) 1000

abbrev pub latitude : Interval
latitude = between (negsuc 100) 100 (pos 101) 100

-- ---- numbers
-- a number lies in the interval that is computed from others
pub on : (m : ℤ) (d : ℕ) (n : ℤ) (e : ℕ) (is : List Interval) (xs : List ℚ) {x : ℚ} → AllInside is xs → (s : Sides xs (ratio m d) x) → NotBelow0 (range (10 ^ 30) (difference s) is) →
    (t : Sides xs x (ratio n e)) → NotBelow0 (range (10 ^ 30) (difference t) is) → Inside (between m d n e) x
on m d n e is xs h s low t high = inside m d n e (le_on (10 ^ 30) is xs h s low) (le_on (10 ^ 30) is xs h t high)

-- the ends of an interval
pub ends : (m : ℤ) (d : ℕ) (n : ℤ) (e : ℕ) {x : ℚ} → Inside (between m d n e) x → (ratio m d ≤ℚ x) × (x ≤ℚ ratio n e)
unfolding ratio
ends m d n e h = (h.low, h.high)

-- the reciprocal of a number that is at least 1
pub reciprocal_inside : {y : ℚ} → one_ℚ ≤ℚ y → Inside reciprocal (inverse y)
reciprocal_inside {y} h =
    inside (pos 0) 1 (pos 1) 1 (le_by (inverse y ∷ []) (gap low) (search reads depth 90) tt) (le_by (inverse y ∷ []) (gap high) (search reads depth 90) tt)
  where
    p : Positive y
    p = positive_above (positive_known 0 1) h

    low : zero_ℚ ≤ℚ one_ℚ /ℚ y
    low = le_quotient p (le_by (y ∷ []) (known 1 1) (search reads depth 90) tt)

    high : one_ℚ /ℚ y ≤ℚ one_ℚ
    high = quotient_le p (le_by (y ∷ []) (gap h) (search reads depth 90) tt)

-- a small quotient of a number that is at least 0.95
pub quotient_inside : {x y h : ℚ} → ratio (pos 95) 100 ≤ℚ y → zero_ℚ ≤ℚ x → x ≤ℚ h *ℚ ratio (pos 95) 100 → zero_ℚ ≤ℚ h → (zero_ℚ ≤ℚ x /ℚ y) × (x /ℚ y ≤ℚ h)
quotient_inside {x} {y} {h} above low high bound = (
  le_quotient p (le_by (x ∷ y ∷ []) (not_negative low) (search reads depth 90) tt),
  quotient_le p (le_by (x ∷ y ∷ h ∷ []) (gap high ⊕ not_negative bound ⊗ gap above) (search reads depth 90) tt),
)
  where
    p : Positive y
    p = positive_above (positive_known 94 100) above

-- a sine or a cosine
pub turn_inside : {s : ℚ} → IsNear (part 60 +ℚ one_ℚ) s zero_ℚ → Inside turn s
turn_inside {s} h =
    inside (negsuc 100000) 100000 (pos 100001) 100000
    (le_by (s ∷ []) (gap h.below ⊕ known (2 ^ 60 - 10 ^ 5) (10 ^ 5 * 2 ^ 60)) (search reads depth 90) tt)
    (le_by (s ∷ []) (gap h.above ⊕ known (2 ^ 60 - 10 ^ 5) (10 ^ 5 * 2 ^ 60)) (search reads depth 90) tt)

-- the inner product of two pairs, and its size
pub pairs_below : (s c t d : ℚ) → IsNear (part 58) (s *ℚ s +ℚ c *ℚ c) one_ℚ → IsNear (part 58) (t *ℚ t +ℚ d *ℚ d) one_ℚ → c *ℚ d +ℚ s *ℚ t ≤ℚ ratio (pos 10001) 10000
pairs_below s c t d h k =
    le_by (s ∷ c ∷ t ∷ d ∷ [])
    (known 1 2 ⊗ (gap h.above ⊕ gap k.above ⊕ square (c -ℚ d) ⊕ square (s -ℚ t)) ⊕ known (2 ^ 58 - 10 ^ 4) (10 ^ 4 * 2 ^ 58))
    (search reads depth 90) tt

pub pairs_near : (s c t d : ℚ) → IsNear (part 58) (s *ℚ s +ℚ c *ℚ c) one_ℚ → IsNear (part 58) (t *ℚ t +ℚ d *ℚ d) one_ℚ → IsNear (ratio (pos 10001) 10000) (c *ℚ d +ℚ s *ℚ t) zero_ℚ
pairs_near s c t d h k = record {
  above = le_by (s ∷ c ∷ t ∷ d ∷ [])
      (known 1 2 ⊗ (gap h.above ⊕ gap k.above ⊕ square (c -ℚ d) ⊕ square (s -ℚ t)) ⊕ known (2 ^ 58 - 10 ^ 4) (10 ^ 4 * 2 ^ 58))
      (search reads depth 90) tt;
  below = le_by (s ∷ c ∷ t ∷ d ∷ [])
      (known 1 2 ⊗ (gap h.above ⊕ gap k.above ⊕ square (c +ℚ d) ⊕ square (s +ℚ t)) ⊕ known (2 ^ 58 - 10 ^ 4) (10 ^ 4 * 2 ^ 58))
      (search reads depth 90) tt;
}

-- ---- the mean elements
-- the semimajor axis, from the perigee
pub axis_above : (a e : ℚ) → ratio (pos 10470) 10000 ≤ℚ a *ℚ (one_ℚ -ℚ e) → zero_ℚ ≤ℚ e → e ≤ℚ ratio (pos 1) 5 → ratio (pos 10470) 10000 ≤ℚ a
axis_above a e perigee low high =
    by_sign (a -ℚ ratio (pos 10470) 10000)
    (λ n. le_by (a ∷ []) n (search reads depth 90) tt)
    (λ n. le_by (a ∷ e ∷ [])
    (gap perigee ⊕ known 1047 1000 ⊗ not_negative low ⊕ known 1000 1047 ⊗ n ⊗ (gap perigee ⊕ n ⊗ (gap high ⊕ known 4 5)))
    (search reads depth 90) tt)

-- with its drag
pub axis_inside : (a f : ℚ) → ratio (pos 10470) 10000 ≤ℚ a → a ≤ℚ ratio (pos 19214) 10000 → ratio (pos 998) 1000 ≤ℚ f → f ≤ℚ ratio (pos 1002) 1000 → Inside axis (a *ℚ f ^ℚ 2)
axis_inside a f low high of_f to_f =
    on (pos 10428) 10000 (pos 19300) 10000 (between (pos 10470) 10000 (pos 19214) 10000 ∷ between (pos 998) 1000 (pos 1002) 1000 ∷ []) (a ∷ f ∷ [])
    (inside (pos 10470) 10000 (pos 19214) 10000 low high, (inside (pos 998) 1000 (pos 1002) 1000 of_f to_f, tt))
    (search reads depth 90) tt (search reads depth 90) tt

-- the eccentricity with its drag
pub eccentricity_inside : (e m : ℚ) → e ≤ℚ ratio (pos 1) 5 → zero_ℚ ≤ℚ m → m ≤ℚ e +ℚ ratio (pos 7) 10000 → Inside eccentricity m
eccentricity_inside e m most low high =
    inside (pos 0) 1 (pos 2007) 10000 low (le_by (e ∷ m ∷ []) (gap most ⊕ gap high) (search reads depth 90) tt)

-- the semilatus rectum of the mean elements
pub mean_rectum_above : (a m : ℚ) → Inside axis a → Inside eccentricity m → one_ℚ ≤ℚ a *ℚ (one_ℚ -ℚ m ^ℚ 2)
mean_rectum_above a m h k = le_on (10 ^ 30) (axis ∷ eccentricity ∷ []) (a ∷ m ∷ []) (h, (k, tt)) (search reads depth 90) tt
