-- The recovery of the mean motion exists: no divisor is 0, and each root has an argument that allows it.
use Rattle.std.proofs.Common.{◌^◌, ◌*◌, ◌-◌, [], ◌∷◌, refl, subst, pos, negsuc}
use Rattle.exact.specs.Rational.{ℚ, ◌+ℚ◌, ◌-ℚ◌, ◌*ℚ◌, ◌/ℚ◌, ◌^ℚ◌, neg_ℚ, inverse, ratio, one_ℚ, zero_ℚ, ◌≤ℚ◌, ◌<ℚ◌}
use Rattle.exact.proofs.RationalRing.{ring, reads}
use Rattle.exact.proofs.Order.{◌⊕◌, ◌⊗◌, gap, known, le_by, not_negative}
use Rattle.exact.proofs.Bounds.{by_sign, square}
use Rattle.exact.proofs.Strict.{Positive, positive_sum, positive_known, positive_inverse, positive_product, positive_gap, not_zero, le_quotient, quotient_le, lt_by, le_of_lt}
use Rattle.exact.specs.Interval.{between}
use Rattle.exact.proofs.Intervals.{le_on, inside}
use Rattle.sgp4_model.specs.Angle.{IsPi, IsNear, IsSinCos, part}
use Rattle.sgp4_model.specs.Degrees.{radians}
use Rattle.sgp4_model.specs.MeanMotion.{MotionRecord, RecoversMotion, IsMotionRecovered}
use Rattle.sgp4_model.specs.MotionLaws.{RecoveredMotionExists}
use Rattle.sgp4_model.specs.Numerals.{whole, decimal}
use Rattle.sgp4_model.specs.Records.{SetRecord}
use Rattle.sgp4_model.specs.Root.{IsSqrt, IsCbrt2}
use Rattle.sgp4_model.specs.Wgs72.{ke, j2}
use Rattle.sgp4_model.proofs.FarQuarters.{pi_above_3}
use Rattle.sgp4_model.proofs.OwnPair.{sine_and_cosine_exist}
use Rattle.sgp4_model.proofs.Pythagoras.{sine_pairs_are_bounded}
use Rattle.sgp4_model.proofs.RootExists.{square_root_exists, cube_root_exists}

-- ---- numbers above a constant, and small quotients
-- what is at least a positive number is positive
positive_from : {l x : ℚ} → Positive l → l ≤ℚ x → Positive x
positive_from {l} {x} p h = subst Positive (ring (l ∷ x ∷ []) (search reads depth 90) tt) (positive_sum p (gap h))

above_zero : {x : ℚ} → Positive x → zero_ℚ <ℚ x
above_zero {x} p = lt_by (x ∷ []) p (search reads depth 90) tt

-- a quotient is small where its dividend is
small_quotient : {x y d : ℚ} → Positive y → IsNear (d *ℚ y) x zero_ℚ → IsNear d (x /ℚ y) zero_ℚ
small_quotient {x} {y} {d} p h =
    record {
      above = le_by (x ∷ inverse y ∷ d ∷ []) (gap (quotient_le p up)) (search reads depth 90) tt;
      below = le_by (x ∷ inverse y ∷ d ∷ []) (gap (le_quotient p down)) (search reads depth 90) tt;
    }
  where
    up : x ≤ℚ d *ℚ y
    up = le_by (x ∷ y ∷ d ∷ []) (gap h.above) (search reads depth 90) tt

    down : neg_ℚ d *ℚ y ≤ℚ x
    down = le_by (x ∷ y ∷ d ∷ []) (gap h.below) (search reads depth 90) tt

-- the same where the divisor is at least l
small_over : {x y d l : ℚ} → Positive l → l ≤ℚ y → zero_ℚ ≤ℚ d → IsNear (d *ℚ l) x zero_ℚ → IsNear d (x /ℚ y) zero_ℚ
small_over {x} {y} {d} {l} p h k near =
    small_quotient (positive_from p h)
    record {
      above = le_by (x ∷ y ∷ d ∷ l ∷ []) (gap near.above ⊕ not_negative k ⊗ gap h) (search reads depth 90) tt;
      below = le_by (x ∷ y ∷ d ∷ l ∷ []) (gap near.below ⊕ not_negative k ⊗ gap h) (search reads depth 90) tt;
    }

from_zero : {x : ℚ} → zero_ℚ <ℚ x → Positive x
from_zero {x} h = subst Positive (ring (x ∷ []) (search reads depth 90) tt) (positive_gap h)

-- ---- roots above a constant
cube_root_above : {x r : ℚ} → ratio (pos 1001) 1000 ≤ℚ x → IsCbrt2 x r → one_ℚ ≤ℚ r
cube_root_above {x} {r} h root =
    by_sign (r -ℚ one_ℚ)
    (λ n. le_by (r ∷ []) n (search reads depth 90) tt)
    (λ n. le_by (x ∷ r ∷ [])
    (known 500 1 ⊗ n ⊗ (n ⊗ (known 1 1 ⊕ gap (le_of_lt root.root) ⊕ square r) ⊕ gap root.cube.below ⊕ gap h ⊗ (gap h ⊕ known 2002 1000) ⊕ known (2 ^ 60 - 10 ^ 6) (10 ^ 6 * 2 ^ 60)))
    (search reads depth 90) tt)

square_root_above : {x r : ℚ} → ratio (pos 96) 100 ≤ℚ x → IsSqrt x r → ratio (pos 9) 10 ≤ℚ r
square_root_above {x} {r} h root =
    by_sign (r -ℚ ratio (pos 9) 10)
    (λ n. le_by (r ∷ []) n (search reads depth 90) tt)
    (λ n. le_by (x ∷ r ∷ [])
    (known 10 1 ⊗ n ⊗ (n ⊗ (known 9 10 ⊕ gap root.root) ⊕ gap root.square.below ⊕ gap h ⊕ known (2 ^ 60 - 20) (20 * 2 ^ 60)))
    (search reads depth 90) tt)

-- ---- the effect of the second harmonic is small
abbrev oblateness : ℚ → ℚ
oblateness c = decimal 75 2 *ℚ j2 *ℚ (whole 3 *ℚ c ^ℚ 2 -ℚ one_ℚ)

oblateness_small : (c : ℚ) → IsNear (part 60 +ℚ one_ℚ) c zero_ℚ → IsNear (ratio (pos 1) 500 *ℚ ratio (pos 864) 1000) (oblateness c) zero_ℚ
oblateness_small c h =
    record {
      above = le_on (10 ^ 30) (between (pos 0) 1 (pos 101) 100 ∷ []) ((c ^ℚ 2) ∷ []) (inside (pos 0) 1 (pos 101) 100 low high, tt) (search reads depth 90) tt;
      below = le_on (10 ^ 30) (between (pos 0) 1 (pos 101) 100 ∷ []) ((c ^ℚ 2) ∷ []) (inside (pos 0) 1 (pos 101) 100 low high, tt) (search reads depth 90) tt;
    }
  where
    low : ratio (pos 0) 1 ≤ℚ c ^ℚ 2
    low = le_by (c ∷ []) (square c) (search reads depth 90) tt

    high : c ^ℚ 2 ≤ℚ ratio (pos 101) 100
    high = le_by (c ∷ []) (gap h.above ⊗ gap h.below ⊕ known (2 ^ 120 - 100 * 2 ^ 61 - 100) (100 * 2 ^ 120)) (search reads depth 90) tt

abbrev corrected : ℚ → ℚ → ℚ
corrected a1 de1 = a1 *ℚ (one_ℚ -ℚ de1 ^ℚ 2 -ℚ de1 *ℚ (ratio (pos 1) 3 +ℚ whole 134 *ℚ de1 ^ℚ 2 *ℚ ratio (pos 1) 81))

corrected_above : (a1 de1 : ℚ) → one_ℚ ≤ℚ a1 → IsNear (ratio (pos 1) 500) de1 zero_ℚ → ratio (pos 99) 100 ≤ℚ corrected a1 de1
corrected_above a1 de1 h near =
    le_by (a1 ∷ de1 ∷ []) (gap h ⊗ (gap factor ⊕ known 99 100) ⊕ gap factor) (search reads depth 90) tt
  where
    factor : ratio (pos 99) 100 ≤ℚ one_ℚ -ℚ de1 ^ℚ 2 -ℚ de1 *ℚ (ratio (pos 1) 3 +ℚ whole 134 *ℚ de1 ^ℚ 2 *ℚ ratio (pos 1) 81)
    factor =
        le_on (10 ^ 30) (between (negsuc 0) 500 (pos 1) 500 ∷ []) (de1 ∷ [])
        (inside (negsuc 0) 500 (pos 1) 500 (le_by (de1 ∷ []) (gap near.below) (search reads depth 90) tt) (le_by (de1 ∷ []) (gap near.above) (search reads depth 90) tt), tt)
        (search reads depth 90) tt

-- ---- the quantities from the cosine c, the eccentricity e and the first semimajor axis a1
module _ (c e a1 b0 : ℚ) (bounded : IsNear (part 60 +ℚ one_ℚ) c zero_ℚ) (low : zero_ℚ ≤ℚ e) (high : e ≤ℚ ratio (pos 1) 5) (axis : one_ℚ ≤ℚ a1) (root : IsSqrt (one_ℚ -ℚ e *ℚ e) b0) where
  abbrev bb : ℚ
  bb = one_ℚ -ℚ e *ℚ e

  abbrev d1 : ℚ
  d1 = oblateness c /ℚ (b0 *ℚ bb)

  abbrev de1 : ℚ
  de1 = d1 /ℚ a1 ^ℚ 2

  abbrev a2 : ℚ
  a2 = corrected a1 de1

  abbrev de0 : ℚ
  de0 = d1 /ℚ a2 ^ℚ 2

  bb_above : ratio (pos 96) 100 ≤ℚ bb
  bb_above = le_by (e ∷ []) (gap high ⊗ (known 1 5 ⊕ gap low)) (search reads depth 90) tt

  b0_bb_above : ratio (pos 864) 1000 ≤ℚ b0 *ℚ bb
  b0_bb_above = le_by (e ∷ b0 ∷ []) (gap (square_root_above bb_above root) ⊗ (gap bb_above ⊕ known 96 100) ⊕ known 9 10 ⊗ gap bb_above) (search reads depth 90) tt

  d1_small : IsNear (ratio (pos 1) 500) d1 zero_ℚ
  d1_small = small_over (positive_known 863 1000) b0_bb_above (le_by [] (known 1 500) (search reads depth 90) tt) (oblateness_small c bounded)

  a1_square_above : one_ℚ ≤ℚ a1 ^ℚ 2
  a1_square_above = le_by (a1 ∷ []) (gap axis ⊗ (gap axis ⊕ known 2 1)) (search reads depth 90) tt

  de1_small : IsNear (ratio (pos 1) 500) de1 zero_ℚ
  de1_small = small_over (positive_known 0 1) a1_square_above (le_by [] (known 1 500) (search reads depth 90) tt) same
    where
      same : IsNear (ratio (pos 1) 500 *ℚ one_ℚ) d1 zero_ℚ
      same = record {
        above = le_by (d1 ∷ []) (gap d1_small.above) (search reads depth 90) tt;
        below = le_by (d1 ∷ []) (gap d1_small.below) (search reads depth 90) tt;
      }

  a2_square_above : ratio (pos 98) 100 ≤ℚ a2 ^ℚ 2
  a2_square_above =
      le_by (a2 ∷ []) (gap above ⊗ (gap above ⊕ known 198 100) ⊕ known 1 10000) (search reads depth 90) tt
    where
      above : ratio (pos 99) 100 ≤ℚ a2
      above = corrected_above a1 de1 axis de1_small

  de0_small : IsNear (ratio (pos 1) 400) de0 zero_ℚ
  de0_small = small_over (positive_known 97 100) a2_square_above (le_by [] (known 1 400) (search reads depth 90) tt) wider
    where
      wider : IsNear (ratio (pos 1) 400 *ℚ ratio (pos 98) 100) d1 zero_ℚ
      wider = record {
        above = le_by (d1 ∷ []) (gap d1_small.above ⊕ known 9 20000) (search reads depth 90) tt;
        below = le_by (d1 ∷ []) (gap d1_small.below ⊕ known 9 20000) (search reads depth 90) tt;
      }

  de0_divisor : ratio (pos 9) 10 ≤ℚ one_ℚ +ℚ de0
  de0_divisor = le_by (de0 ∷ []) (gap de0_small.below ⊕ known 39 400) (search reads depth 90) tt

  -- the record for a mean motion and a second semimajor axis
  abbrev motion_record : (i si n a : ℚ) → MotionRecord
  motion_record i si n a = record {
    i = i;
    c = c;
    si = si;
    e = e;
    n = n;
    a1 = a1;
    bb = bb;
    b0 = b0;
    d1 = d1;
    de1 = de1;
    a2 = a2;
    de0 = de0;
    n0 = n /ℚ (one_ℚ +ℚ de0);
    a = a;
    p = a *ℚ bb;
    rp = a *ℚ (one_ℚ -ℚ e);
    con41 = whole 3 *ℚ c ^ℚ 2 -ℚ one_ℚ;
    con42 = one_ℚ -ℚ whole 5 *ℚ c ^ℚ 2;
  }

  pub recovered_motion : (i si n : ℚ) → Positive n → IsCbrt2 (ke /ℚ n) a1 → (a : ℚ) × RecoversMotion (motion_record i si n a)
  recovered_motion i si n p axis_root = (
    second.0,
    record {
      n_divides = not_zero p;
      a1_is = axis_root;
      bb_is = refl;
      b0_is = root;
      b0_bb_divides = not_zero (positive_from (positive_known 863 1000) b0_bb_above);
      d1_is = refl;
      a1_divides = not_zero (positive_from (positive_known 0 1) a1_square_above);
      de1_is = refl;
      a2_is = refl;
      a2_divides = not_zero (positive_from (positive_known 97 100) a2_square_above);
      de0_is = refl;
      de0_divides = not_zero divisor;
      n0_is = refl;
      n0_divides = not_zero n0;
      a_is = second.1;
      p_is = refl;
      rp_is = refl;
      con41_is = refl;
      con42_is = refl;
    },
  )
    where
      divisor : Positive (one_ℚ +ℚ de0)
      divisor = positive_from (positive_known 8 10) de0_divisor

      n0 : Positive (n /ℚ (one_ℚ +ℚ de0))
      n0 = positive_product p (positive_inverse divisor)

      second : (a : ℚ) × IsCbrt2 (ke /ℚ (n /ℚ (one_ℚ +ℚ de0))) a
      second = cube_root_exists (ke /ℚ (n /ℚ (one_ℚ +ℚ de0))) (above_zero (positive_product (positive_known 743669160 (10 ^ 10)) (positive_inverse n0)))

-- ---- the mean motion as given
abbrev per_minute : ℚ → ℚ → ℚ
per_minute motion pi = motion *ℚ whole 2 *ℚ pi *ℚ ratio (pos 1) 1440

per_minute_positive : {motion pi : ℚ} → IsPi pi → zero_ℚ <ℚ motion → Positive (per_minute motion pi)
per_minute_positive h slow =
    positive_product (positive_product (positive_product (from_zero slow) (positive_known 1 1)) (positive_from (positive_known 2 1) (pi_above_3 h))) (positive_known 0 1440)

pi_below : {pi : ℚ} → IsPi pi → pi ≤ℚ ratio (pos 31416) 10000
pi_below {pi} h = le_by (pi ∷ []) (gap h.high ⊕ known 1469282041352307471323344099423 200000000000000000000000000000000000) (search reads depth 90) tt

first_above : (motion pi : ℚ) → IsPi pi → zero_ℚ <ℚ motion → motion ≤ℚ whole 17 → ratio (pos 1001) 1000 ≤ℚ ke /ℚ per_minute motion pi
first_above motion pi h slow fast =
    le_quotient (per_minute_positive h slow)
    (le_by (motion ∷ pi ∷ [])
    (known 1001 720000 ⊗ (gap fast ⊗ (gap (pi_above_3 h) ⊕ known 3 1) ⊕ known 17 1 ⊗ gap (pi_below h)) ⊕ known 3482183 30000000000)
    (search reads depth 90) tt)

-- the motion of a set from a pair of its inclination and the first two roots
from_roots : (set : SetRecord) (pi si c a1 b0 : ℚ) → IsPi pi → zero_ℚ ≤ℚ set.ecc → set.ecc ≤ℚ ratio (pos 1) 5 → zero_ℚ <ℚ set.motion → one_ℚ ≤ℚ a1 →
    IsSinCos pi (radians pi set.incl) si c → IsCbrt2 (ke /ℚ per_minute set.motion pi) a1 → IsSqrt (one_ℚ -ℚ set.ecc *ℚ set.ecc) b0 →
    (m : MotionRecord) × IsMotionRecovered set pi m
from_roots set pi si c a1 b0 h low high slow axis pair first flat = (
  motion_record c set.ecc a1 b0 bounded low high axis flat (radians pi set.incl) si (per_minute set.motion pi) found.0,
  record { i_is = refl; i_pair = pair; e_is = refl; n_is = refl; recovers = found.1 },
)
  where
    bounded : IsNear (part 60 +ℚ one_ℚ) c zero_ℚ
    bounded = (sine_pairs_are_bounded pi (radians pi set.incl) si c h pair).1

    found : (a : ℚ) × RecoversMotion (motion_record c set.ecc a1 b0 bounded low high axis flat (radians pi set.incl) si (per_minute set.motion pi) a)
    found = recovered_motion c set.ecc a1 b0 bounded low high axis flat (radians pi set.incl) si (per_minute set.motion pi) (per_minute_positive h slow) first

axis_positive : {e : ℚ} → zero_ℚ ≤ℚ e → e ≤ℚ ratio (pos 1) 5 → zero_ℚ ≤ℚ one_ℚ -ℚ e *ℚ e
axis_positive {e} low high = le_by (e ∷ []) (gap high ⊗ (known 1 5 ⊕ gap low) ⊕ known 96 100) (search reads depth 90) tt

pub recovered_motion_exists : RecoveredMotionExists
recovered_motion_exists set pi h low high slow fast =
    let turn = sine_and_cosine_exist pi (radians pi set.incl) h in
    let first = cube_root_exists (ke /ℚ per_minute set.motion pi) ratio_positive in
    let flat = square_root_exists (one_ℚ -ℚ set.ecc *ℚ set.ecc) (axis_positive low high) in
    from_roots set pi turn.0 turn.1.0 first.0 flat.0 h low high slow (cube_root_above (first_above set.motion pi h slow fast) first.1) turn.1.1 first.1 flat.1
  where
    ratio_positive : zero_ℚ <ℚ ke /ℚ per_minute set.motion pi
    ratio_positive = above_zero (positive_product (positive_known 743669160 (10 ^ 10)) (positive_inverse (per_minute_positive h slow)))
