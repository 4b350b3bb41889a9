-- Degrees in half turns and in radians, and the intervals of their sines and cosines.
use Rattle.std.proofs.Common.{◌≡◌, refl, arith, le_trans as nat_trans, [], ◌∷◌, subst, true, ℕ, ◌^◌, ◌*◌, ◌<◌, ◌≤◌, ℤ, pos, negsuc, neg_ℤ, ◌+ℤ◌, ◌-ℤ◌, ◌*ℤ◌, ◌≤ℤ◌, ◌<ℤ◌, mul-pos, to_z, of_z}
use Rattle.std.specs.Int.{w64, w128}
use Rattle.std.proofs.lemmas.Int.{ints}
use Rattle.std.proofs.Math.Nat.{suc-pred-eq_of_pos}
use Rattle.algebra.proofs.IntRing.{ring_ℤ, reads_ℤ}
use Rattle.exact.specs.Rational.{ℚ, glue, ratio, of_int, ◌+ℚ◌, ◌*ℚ◌, zero_ℚ, ◌≤ℚ◌}
use Rattle.exact.proofs.RationalRing.{ring, reads}
use Rattle.exact.proofs.Order.{le_by, le_trans, le_refl, gap, known, ◌⊕◌, ◌⊗◌}
use Rattle.exact.proofs.Bounds.{abs_le}
use Rattle.exact.proofs.Strict.{le_of_lt}
use Rattle.exact.proofs.Integers.{le_of_int, of_int_le, of_int_add, of_int_is}
use Rattle.exact.specs.Interval.{between}
use Rattle.exact.proofs.Intervals.{inside}
use Rattle.decimals.specs.Decimal.{DecimalRecord, IsDecimal, value}
use Rattle.decimals.proofs.UnitsLemmas.{ten_pow_fits, ten_pow_pos}
use Rattle.elements.specs.Elements.{IsFromTo}
use Rattle.station_file.specs.Masks.{IsAzimuth}
use Rattle.fixed_iv.specs.Ends.{in_units}
use Rattle.fixed_iv.specs.Extent.{extent_of, width_of}
use Rattle.fixed_iv.specs.Holds.{Holds, IsBounded, IsTightest}
use Rattle.fixed_iv.specs.Place.{Place}
use Rattle.fixed_iv.specs.Reach.{Reach, IsGiven, IsHeld, from_to, given, pi_reach, ◌*ᴿ◌}
use Rattle.fixed_iv.specs.Results.{IsProduct, IsRatio}
use Rattle.fixed_iv.specs.declared.iv.Iv.{Iv}
use Rattle.fixed_iv.proofs.Held.{constant_held, times_held, within}
use Rattle.fixed_iv.proofs.HeldGiven.{pi_held}
use Rattle.fixed_iv.proofs.HeldLemmas.{holds_product}
use Rattle.fixed_iv.proofs.NarrowLemmas.{constant_narrow, narrow_by, product_narrow}
use Rattle.fixed_iv.proofs.OuterLemmas.{width_is}
use Rattle.fixed_iv.proofs.WidthLemmas.{tight_bounded, tight_width}
use Rattle.sgp4_model.specs.Angle.{IsPi, least_pi}
use Rattle.sgp4_model.specs.Degrees.{radians}
use Rattle.trig_enc.specs.Enclose.{HoldSinCos, HoldsPi, IsAtMostWider, IsWithinLimits}
use Rattle.station_view.specs.Spot.{AreSlim, EnclosePair, IsNoWider}

-- ---- half turns
crossed : (n : ℤ) (d : ℕ) → n *ℤ pos (d * 180) ≡ (n *ℤ pos 1) *ℤ pos (180 * d)
crossed n d = let e : d * 180 ≡ 180 * d = omega arith in rw e (ring_ℤ (n ∷ pos (180 * d) ∷ []) (search reads_ℤ depth 20) tt)

-- a 180th of a ratio has 180 times its divisor
pub over_180 : (n : ℤ) (d : ℕ) → 0 < d → ratio n (180 * d) ≡ ratio n d *ℚ ratio (pos 1) 180
unfolding ratio ◌*ℚ◌
over_180 n d h = glue _ _ (rw (suc-pred-eq_of_pos h, suc-pred-eq_of_pos (mul-pos {m = 180} (omega arith) h)) (crossed n d))

pub half_turns_are : (d : DecimalRecord) → ratio d.digits (180 * 10 ^ d.places) ≡ value d *ℚ ratio (pos 1) 180
unfolding value
half_turns_are d = over_180 d.digits (10 ^ d.places) (ten_pow_pos d.places)

-- ---- ranges
abbrev full : ℤ
full = neg_ℤ (pos 360)

between_wider : {l h : ℤ} {x : ℚ} → full ≤ℤ l → h ≤ℤ pos 360 → IsFromTo l h x → IsFromTo full (pos 360) x
between_wider p q r = record { least = le_trans (of_int_le p) r.least; most = le_trans r.most (of_int_le q) }

pub lat_within : {x : ℚ} → IsFromTo (neg_ℤ (pos 90)) (pos 90) x → IsFromTo full (pos 360) x
lat_within r = between_wider (omega (arith, ints)) (omega (arith, ints)) r

pub lon_within : {x : ℚ} → IsFromTo (neg_ℤ (pos 180)) (pos 360) x → IsFromTo full (pos 360) x
lon_within r = between_wider (omega (arith, ints)) (omega (arith, ints)) r

pub azimuth_within : {x : ℚ} → IsAzimuth x → IsFromTo full (pos 360) x
azimuth_within {x} r =
    let l = rw (of_int_is (pos 0)) at r.least in
    record { least = rw (of_int_is full) (le_by (x ∷ []) (gap l ⊕ known 360 1) (search reads depth 90) tt); most = le_of_lt r.most }

-- ---- the interval of one number between -2 and 2
pub one_number : {v : Iv} (x : ℚ) → IsTightest (λ y. y ≡ x) v → ratio (negsuc 1) 1 ≤ℚ x → x ≤ℚ ratio (pos 2) 1 → IsGiven v x (between (negsuc 1) 1 (pos 2) 1) 2
one_number {v} x t l h =
    let b = tight_bounded t (λ y e. rw e (abs_le (le_by (x ∷ []) (gap l ⊕ known 31998 1) (search reads depth 90) tt) (le_by (x ∷ []) (gap h ⊕ known 31998 1) (search reads depth 90) tt))) in
    record {
      holds = t.holds x refl;
      bounded = b;
      within = two v.lo v.hi (width_of v) (width_is v) (tight_width zero_ℚ t b refl same);
      inside = inside (negsuc 1) 1 (pos 2) 1 l h;
    }
  where
    same : (y z : ℚ) → y ≡ x → z ≡ x → in_units y ≤ℚ in_units z +ℚ zero_ℚ
    same y z e f = rw (e, f) (le_by (x ∷ []) (known 0 1) (search reads depth 90) tt)

    two : (lo hi : ℤ) (n : ℕ) → pos n ≡ hi -ℤ lo → of_int hi ≤ℚ of_int lo +ℚ zero_ℚ +ℚ ratio (pos 2) 1 → n ≤ 2
    two lo hi n e h =
        let f : hi ≤ℤ (lo +ℤ pos 2) = le_of_int (rw (of_int_add, of_int_is (pos 2)) (le_by (of_int lo ∷ of_int hi ∷ []) (gap h) (search reads depth 90) tt)) in
        omega (arith, ints, e, f)

-- ---- from degrees to radians, and to the pair
pub at_start : Place
at_start = record { at = zero_ℚ; low = le_by [] (known 1 1) (search reads depth 90) tt; high = le_by [] (known 1 1) (search reads depth 90) tt }

low_half : {x : ℚ} → of_int full ≤ℚ x → ratio (negsuc 1) 1 ≤ℚ x *ℚ ratio (pos 1) 180
low_half {x} h = let k = rw (of_int_is full) at h in le_by (x ∷ []) (known 1 180 ⊗ gap k) (search reads depth 90) tt

high_half : {x : ℚ} → x ≤ℚ of_int (pos 360) → x *ℚ ratio (pos 1) 180 ≤ℚ ratio (pos 2) 1
high_half {x} h = let k = rw (of_int_is (pos 360)) at h in le_by (x ∷ []) (known 1 180 ⊗ gap k) (search reads depth 90) tt

abbrev Held : Iv → ℚ → Reach → Type 0
Held v x r = IsHeld (λ (a : Iv) (h : Place) (y : ℚ). Holds a y) extent_of true v at_start x r

-- radians of half turns
pub angle_known : {v half angle : Iv} (p x : ℚ) → HoldsPi v → v.hi ≡ v.lo +ℤ pos 1 → IsBounded v → IsPi p →
    IsFromTo full (pos 360) x → IsTightest (λ y. y ≡ x *ℚ ratio (pos 1) 180) half → IsProduct v half angle →
    Held angle (p *ℚ (x *ℚ ratio (pos 1) 180)) (from_to (negsuc 6) (pos 7) 1 16)
unfolding given ◌*ᴿ◌
angle_known {v} {half} {angle} p x hp wp bp pi range t product =
    let turns : Held half (x *ℚ ratio (pos 1) 180) (given (between (negsuc 1) 1 (pos 2) 1) 2) =
    constant_held (λ h y k. k) (λ _. constant_narrow half) (one_number (x *ℚ ratio (pos 1) 180) t (low_half range.least) (high_half range.most)) in
    let circle : Held v p pi_reach = pi_held (λ h y k. hp y k) (λ _. narrow_by v (λ _ _. bp) (λ _ _. omega (arith, ints, wp, width_is v))) pi in
    let both : Held angle (p *ℚ (x *ℚ ratio (pos 1) 180)) (pi_reach *ᴿ given (between (negsuc 1) 1 (pos 2) 1) 2) =
    times_held (λ a h y k. k) (λ h y z k l. holds_product product k l) (λ _. product_narrow product) circle turns in
    within (from_to (negsuc 6) (pos 7) 1 16) both tt

radians_are : (p x : ℚ) → p *ℚ (x *ℚ ratio (pos 1) 180) ≡ radians p x
radians_are p x = ring (p ∷ x ∷ []) (search reads depth 90) tt

pub some_pi : IsPi least_pi
some_pi = record { low = le_refl _; high = le_by [] (known 1 (10 ^ 36)) (search reads depth 90) tt }

narrow_pair : {a v : Iv} → IsBounded a → width_of a ≤ 16 → IsAtMostWider a v → IsWithinLimits v → IsNoWider (2 ^ 20) v
narrow_pair {a} {v} b n wider limits = record {
  bounded = record { low = omega (arith, ints, limits.low); high = omega (arith, ints, limits.high) };
  width = let w = wider b in omega (arith, ints, w, n, width_is a, width_is v);
}

pub pair_enclosed : {pies half angle sines cosines : Iv} {x : ℚ} → IsFromTo full (pos 360) x → IsTightest (λ y. y ≡ x *ℚ ratio (pos 1) 180) half →
    HoldsPi pies → pies.hi ≡ pies.lo +ℤ pos 1 → IsBounded pies → IsProduct pies half angle →
    HoldSinCos angle sines cosines → IsAtMostWider angle sines → IsAtMostWider angle cosines → IsWithinLimits sines → IsWithinLimits cosines →
    EnclosePair x sines cosines
pair_enclosed {pies} {half} {angle} {sines} {cosines} {x} range t hp wp bp product hold ws wc ls lc =
    let k = (angle_known {v = pies} {half = half} {angle = angle} least_pi x hp wp bp some_pi range t product).known tt tt in
    let narrow = nat_trans k.measured.width k.narrow in
    record {
      hold = λ p pair pi is. hold p (radians p x) pair.sine pair.cosine pi (subst (λ y. Holds angle y) (radians_are p x) (holds_product product (hp p pi) (t.holds _ refl))) is;
      narrow_sines = narrow_pair k.measured.bounded narrow ws ls;
      narrow_cosines = narrow_pair k.measured.bounded narrow wc lc;
    }

slim : (a v : Iv) → IsBounded a → width_of a ≤ 16 → IsAtMostWider a v → width_of v ≤ 64
slim a v b n wider = let w = wider b in omega (arith, ints, w, n, width_is a, width_is v)

pub pair_slim : {pies half angle sines cosines : Iv} {x : ℚ} → IsFromTo full (pos 360) x → IsTightest (λ y. y ≡ x *ℚ ratio (pos 1) 180) half →
    HoldsPi pies → pies.hi ≡ pies.lo +ℤ pos 1 → IsBounded pies → IsProduct pies half angle →
    IsAtMostWider angle sines → IsAtMostWider angle cosines → AreSlim sines cosines
pair_slim {pies} {half} {angle} {sines} {cosines} {x} range t hp wp bp product ws wc =
    let k = (angle_known {v = pies} {half = half} {angle = angle} least_pi x hp wp bp some_pi range t product).known tt tt in
    let narrow = nat_trans k.measured.width k.narrow in
    record { first = slim angle sines k.measured.bounded narrow ws; second = slim angle cosines k.measured.bounded narrow wc }

-- ---- the code's ratio
-- the digits and the divisor, as the code has them
pub record IsDegreeRatio (d : DecimalRecord) (num den : ℤ) : Type 0 where
  pub digits : to_z w128 (of_z w128 num) ≡ d.digits
  pub divisor : to_z w128 (of_z w128 (pos 180 *ℤ to_z w128 (of_z w128 den))) ≡ pos (180 * 10 ^ d.places)

pub degree_ratio : (d : DecimalRecord) (num den : ℤ) (scale : ℕ) → IsDecimal d → num ≡ to_z w64 (of_z w64 d.digits) → den ≡ pos scale → scale ≡ 10 ^ d.places → IsDegreeRatio d num den
degree_ratio d num den scale h e f g = record {
  digits = omega (arith, ints, e, h.size);
  divisor = rw (← g) (omega (arith, ints, f, most));
}
  where
    most : scale ≤ 1000000000000000000
    most = rw g (ten_pow_fits d.places h.most_places)

pub positive_scale : (d : DecimalRecord) → pos 0 <ℤ pos (180 * 10 ^ d.places)
positive_scale d = let h = ten_pow_pos d.places in omega (arith, ints, h)

pub tightest_of_degrees : {v : Iv} (d : DecimalRecord) {num den : ℤ} → num ≡ d.digits → den ≡ pos (180 * 10 ^ d.places) →
    IsTightest (IsRatio num den) v → IsTightest (λ x. x ≡ value d *ℚ ratio (pos 1) 180) v
tightest_of_degrees {v} d {num} {den} e f t =
    let k : IsTightest (λ x. x ≡ ratio d.digits (180 * 10 ^ d.places)) v = rw (e, f) at t in
    subst (λ y. IsTightest (λ x. x ≡ y) v) (half_turns_are d) k
