-- Where the recovered motion of a near-Earth set lies.
use Rattle.std.proofs.Common.{◌≡◌, [], ◌∷◌, ap, ◌∙◌, ◌^◌, ◌*◌, ◌%◌, T, Bool, pos}
use Rattle.exact.specs.Rational.{ℚ, ratio, inverse, ◌-ℚ◌, ◌*ℚ◌, ◌/ℚ◌, zero_ℚ, one_ℚ, ◌≤ℚ◌, ◌<ℚ◌}
use Rattle.exact.proofs.RationalRing.{ring, reads}
use Rattle.exact.proofs.Order.{NonNeg, le_by, le_of_gap, le_trans, same_sign, gap, known, ◌⊕◌, ◌⊗◌}
use Rattle.exact.proofs.Bounds.{by_sign, square}
use Rattle.exact.specs.Interval.{Inside}
use Rattle.exact.proofs.Intervals.{inside}
use Rattle.exact.proofs.Strict.{Positive, le_of_lt, mul_inverse, not_zero, positive_known, positive_weak, quotient_le}
use Rattle.fixed_iv.specs.Place.{Place}
use Rattle.fixed_iv.specs.declared.enc.Enc.{Ghosts}
use Rattle.fixed_iv.proofs.Held.{claim_held, within}
use Rattle.sgp4_model.specs.Angle.{IsPi}
use Rattle.sgp4_model.specs.MeanMotion.{MotionRecord, IsMotionRecovered, RecoversMotion}
use Rattle.sgp4_model.specs.Numerals.{whole}
use Rattle.sgp4_model.specs.Records.{SetRecord}
use Rattle.sgp4_model.specs.Root.{IsCbrt2}
use Rattle.sgp4_model.specs.Wgs72.{ke, earth_radius_km}
use Rattle.sgp4_shape.specs.Covering.{unit_minutes}
use Rattle.sgp4_motion.specs.Fate.{IsNearEarth}
use Rattle.sgp4_motion.specs.declared.limits.TheConstants.{LEAST_PERIGEE_KM}
use Rattle.sgp4_motion.specs.declared.recovered.Recovered.{Recovered}
use Rattle.sgp4_motion.specs.HeldMotion.{IsHeldMotion, MotionReach, least_radius, reach_motion, reach_recovered}
use Rattle.sgp4_motion.proofs.InputLemmas.{positive_from}

-- a quotient's bound bounds the dividend
product_from : {a b c : ℚ} → Positive c → a /ℚ c ≤ℚ b → a ≤ℚ b *ℚ c
product_from {a} {b} {c} p h =
    le_of_gap (same_sign (
    ring (a ∷ b ∷ c ∷ inverse c ∷ []) {y = b *ℚ c -ℚ a *ℚ (c *ℚ inverse c)} (search reads depth 90) tt
    ∙ ap (λ t. b *ℚ c -ℚ a *ℚ t) (mul_inverse c (not_zero p))
    ∙ ring (a ∷ b ∷ c ∷ []) (search reads depth 90) tt
    ) (gap h ⊗ positive_weak p))

-- ---- from the numerals of a recovered motion
ecc_least : {x : ℚ} → Inside reach_recovered.e.range x → ratio (pos 0) 10 ≤ℚ x
unfolding ratio
ecc_least h = h.low

ecc_low : {x : ℚ} → Inside reach_recovered.e.range x → zero_ℚ ≤ℚ x
ecc_low {x} h = le_by (x ∷ []) (gap (ecc_least h)) (search reads depth 90) tt

ecc_high : {x : ℚ} → Inside reach_recovered.e.range x → x ≤ℚ ratio (pos 2) 10
unfolding ratio
ecc_high h = h.high

n0_low : {x : ℚ} → Inside reach_recovered.n0.range x → ratio (pos 4490) 10 ≤ℚ x
unfolding ratio
n0_low h = h.low

pub mean_motion_positive : {n0 : ℚ} → Inside reach_recovered.n0.range (unit_minutes 1 *ℚ n0) → Positive n0
mean_motion_positive {n0} h =
    positive_from (positive_known 448 163840) (le_by (n0 ∷ []) (known 1 16384 ⊗ gap (n0_low h) ⊕ known 4041 163840) (search reads depth 90) tt)

-- ---- the mean motion from below, and the semimajor axis from above
n0_above : {pi n0 : ℚ} → IsPi pi → Positive n0 → whole 2 *ℚ pi /ℚ n0 ≤ℚ whole 225 → ratio (pos 4575) 10 ≤ℚ unit_minutes 1 *ℚ n0
n0_above {pi} {n0} h p k =
    le_by (pi ∷ n0 ∷ [])
    (known 16384 225 ⊗ gap (product_from p k) ⊕ known 32768 225 ⊗ gap h.low ⊕ known 15787945633811538553615273291907 572204589843750000000000000000000)
    (search reads depth 90) tt

root_below : {x a : ℚ} → x ≤ℚ ratio (pos 26633) 10000 → IsCbrt2 x a → a ≤ℚ ratio (pos 19214) 10000
root_below {x} {a} h root =
    by_sign (ratio (pos 19214) 10000 -ℚ a)
    (λ n. le_by (a ∷ []) n (search reads depth 90) tt)
    (λ n. le_by (x ∷ a ∷ [])
    (known 5000 1 ⊗ n ⊗ (n ⊗ (square a ⊕ known 19214 10000 ⊗ gap (le_of_lt root.root) ⊕ known (19214 * 19214) (10 ^ 8)) ⊕ gap root.cube.above ⊕ gap h ⊗ (gap (le_of_lt root.argument) ⊕ known 26633 10000) ⊕ known 4301597421483989317039 281474976710656000000000000))
    (search reads depth 90) tt)

axis_below : {n0 a : ℚ} → Positive n0 → ratio (pos 4575) 10 ≤ℚ unit_minutes 1 *ℚ n0 → IsCbrt2 (ke /ℚ n0) a → a ≤ℚ ratio (pos 19214) 10000
axis_below {n0} p h root = root_below (quotient_le p (le_by (n0 ∷ []) (known 26633 163840000 ⊗ gap h ⊕ known 10061443 5120000000000) (search reads depth 90) tt)) root

-- ---- the perigee from below, and the mean motion from above
radius_above : {rp : ℚ} → whole LEAST_PERIGEE_KM ≤ℚ (rp -ℚ one_ℚ) *ℚ earth_radius_km → ratio (pos (least_radius 100000)) 100000 ≤ℚ rp
radius_above {rp} h = le_by (rp ∷ []) (known 1000 6378135 ⊗ gap h ⊕ known (100000 * LEAST_PERIGEE_KM * 1000 % 6378135) (100000 * 6378135)) (search reads depth 90) tt

-- the range of a semimajor axis and that of its power do not meet
root_apart : {x a y : ℚ} → x ≤ℚ ratio (pos 10707) 10000 → ratio (pos 104703) 100000 ≤ℚ a → IsCbrt2 x a → NonNeg y → y ≤ℚ zero_ℚ
root_apart {x} {a} {y} h k root n =
    le_by (x ∷ a ∷ y ∷ [])
    (known 1000 1 ⊗ n ⊗ (gap k ⊗ (square a ⊕ known 104703 100000 ⊗ gap (le_of_lt root.root) ⊕ known (104703 * 104703) (10 ^ 10)) ⊕ gap root.cube.above ⊕ gap h ⊗ (gap (le_of_lt root.argument) ⊕ known 10707 10000) ⊕ known 15164275673930589913921139 35184372088832000000000000000))
    (search reads depth 90) tt

n0_below : {n0 a : ℚ} → Positive n0 → ratio (pos 104703) 100000 ≤ℚ a → IsCbrt2 (ke /ℚ n0) a → unit_minutes 1 *ℚ n0 ≤ℚ ratio (pos 11380) 10
n0_below {n0} {a} p h root =
    by_sign (ratio (pos 11380) 10 -ℚ unit_minutes 1 *ℚ n0)
    (λ n. le_by (n0 ∷ []) n (search reads depth 90) tt)
    (λ n. le_by (n0 ∷ []) (gap (root_apart (power (le_by (n0 ∷ []) n (search reads depth 90) tt)) h root n)) (search reads depth 90) tt)
  where
    power : ratio (pos 11380) 10 ≤ℚ unit_minutes 1 *ℚ n0 → ke /ℚ n0 ≤ℚ ratio (pos 10707) 10000
    power k = quotient_le p (le_by (n0 ∷ []) (known 10707 163840000 ⊗ gap k ⊕ known 2269267 1280000000000) (search reads depth 90) tt)

-- ---- the axis, the semilatus rectum and the perigee stand in this order
module _ {a e bb p rp : ℚ} (root : zero_ℚ <ℚ a) (low : zero_ℚ ≤ℚ e) (high : e ≤ℚ ratio (pos 2) 10) (bb_is : bb ≡ one_ℚ -ℚ e *ℚ e) (p_is : p ≡ a *ℚ bb) (rp_is : rp ≡ a *ℚ (one_ℚ -ℚ e)) where
  radius_axis : rp ≤ℚ a
  radius_axis = rw rp_is (le_by (a ∷ e ∷ []) (gap (le_of_lt root) ⊗ gap low) (search reads depth 90) tt)

  rectum_axis : p ≤ℚ a
  rectum_axis = rw (p_is, bb_is) (le_by (a ∷ e ∷ []) (gap (le_of_lt root) ⊗ gap low ⊗ gap low) (search reads depth 90) tt)

  radius_rectum : rp ≤ℚ p
  radius_rectum = rw (rp_is, p_is, bb_is) (le_by (a ∷ e ∷ []) (gap (le_of_lt root) ⊗ gap low ⊗ (gap high ⊕ known 8 10)) (search reads depth 90) tt)

-- ---- the numerals of a near-Earth set
pub near_earth_held : {A : Type 0} {E : Ghosts A} {motion : Recovered A} {h : Place} {m : MotionRecord} (set : SetRecord) (pi : ℚ) →
    T E.tells → IsPi pi → IsMotionRecovered set pi m → IsNearEarth set → IsHeldMotion {A = A} E motion h m reach_recovered → IsHeldMotion E motion h m reach_motion
near_earth_held {m = m} set pi told is_pi recovered near k =
    record {
      i = k.i;
      c = k.c;
      si = k.si;
      e = k.e;
      n0 = within reach_motion.n0 (claim_held _ k.n0 (inside (pos 4575) 10 (pos 11380) 10 n0_least n0_most)) tt;
      a = within reach_motion.a (claim_held _ k.a (inside (pos (least_radius 100000)) 100000 (pos 19214) 10000 (le_trans rp_least (radius_axis root low high lines.bb_is lines.p_is lines.rp_is)) a_most)) tt;
      bb = k.bb;
      b0 = k.b0;
      p = within reach_motion.p (claim_held _ k.p (inside (pos (least_radius 100000)) 100000 (pos 19214) 10000 (le_trans rp_least (radius_rectum root low high lines.bb_is lines.p_is lines.rp_is)) (le_trans (rectum_axis root low high lines.bb_is lines.p_is lines.rp_is) a_most))) tt;
      rp = within reach_motion.rp (claim_held _ k.rp (inside (pos (least_radius 100000)) 100000 (pos 19214) 10000 rp_least (le_trans (radius_axis root low high lines.bb_is lines.p_is lines.rp_is) a_most))) tt;
      con41 = k.con41;
      con42 = k.con42;
    }
  where
    lines : RecoversMotion m
    lines = recovered.recovers

    root : zero_ℚ <ℚ m.a
    root = lines.a_is.root

    low : zero_ℚ ≤ℚ m.e
    low = ecc_low (k.e.known told tt).inside

    high : m.e ≤ℚ ratio (pos 2) 10
    high = ecc_high (k.e.known told tt).inside

    positive : Positive m.n0
    positive = mean_motion_positive (k.n0.known told tt).inside

    n0_least : ratio (pos 4575) 10 ≤ℚ unit_minutes 1 *ℚ m.n0
    n0_least = n0_above is_pi positive (le_of_lt (near.period pi m is_pi recovered))

    a_most : m.a ≤ℚ ratio (pos 19214) 10000
    a_most = axis_below positive n0_least lines.a_is

    rp_least : ratio (pos (least_radius 100000)) 100000 ≤ℚ m.rp
    rp_least = radius_above (near.perigee pi m is_pi recovered)

    n0_most : unit_minutes 1 *ℚ m.n0 ≤ℚ ratio (pos 11380) 10
    n0_most = n0_below positive (le_trans rp_least (radius_axis root low high lines.bb_is lines.p_is lines.rp_is)) lines.a_is

-- the numerals say nothing of the form
pub in_a_form : {A : Type 0} {E : Ghosts A} {simple : Bool} {motion : Recovered A} {h : Place} {m : MotionRecord} {r : MotionReach} →
    IsHeldMotion {A = A} E motion h m r → IsHeldMotion E (record motion { simple = simple }) h m r
in_a_form k = record {
  i = k.i;
  c = k.c;
  si = k.si;
  e = k.e;
  n0 = k.n0;
  a = k.a;
  bb = k.bb;
  b0 = k.b0;
  p = k.p;
  rp = k.rp;
  con41 = k.con41;
  con42 = k.con42;
}
