-- Heights in kilometres, and their intervals.
use Rattle.std.proofs.Common.{◌≡◌, refl, arith, [], ◌∷◌, subst, ℕ, ◌^◌, ◌*◌, ◌<◌, ◌≤◌, ℤ, pos, negsuc, neg_ℤ, ◌+ℤ◌, ◌-ℤ◌, ◌*ℤ◌, ◌≤ℤ◌, ◌<ℤ◌, mul-pos, to_z, of_z}
use Rattle.std.specs.Int.{w64, w128}
use Rattle.std.proofs.lemmas.Int.{ints}
use Rattle.std.proofs.Math.Nat.{suc-pred-eq_of_pos}
use Rattle.algebra.proofs.IntRing.{ring_ℤ, reads_ℤ}
use Rattle.exact.specs.Rational.{ℚ, glue, ratio, of_int, ◌+ℚ◌, ◌*ℚ◌, zero_ℚ, ◌≤ℚ◌}
use Rattle.exact.proofs.RationalRing.{reads}
use Rattle.exact.proofs.Order.{le_by, gap, known, ◌⊕◌, ◌⊗◌}
use Rattle.exact.proofs.Bounds.{abs_le}
use Rattle.exact.proofs.Integers.{le_of_int, of_int_add, of_int_is}
use Rattle.exact.specs.Interval.{between}
use Rattle.exact.proofs.Intervals.{inside}
use Rattle.decimals.specs.Decimal.{DecimalRecord, IsDecimal, value}
use Rattle.decimals.proofs.UnitsLemmas.{ten_pow_fits, ten_pow_pos}
use Rattle.elements.specs.Elements.{IsFromTo}
use Rattle.fixed_iv.specs.Ends.{in_units}
use Rattle.fixed_iv.specs.Extent.{width_of}
use Rattle.fixed_iv.specs.Holds.{IsTightest}
use Rattle.fixed_iv.specs.Reach.{IsGiven}
use Rattle.fixed_iv.specs.Results.{IsRatio}
use Rattle.fixed_iv.specs.declared.iv.Iv.{Iv}
use Rattle.fixed_iv.proofs.OuterLemmas.{width_is}
use Rattle.fixed_iv.proofs.WidthLemmas.{tight_bounded, tight_width}

-- ---- kilometres
crossed : (n : ℤ) (d : ℕ) → n *ℤ pos (d * 1000) ≡ (n *ℤ pos 1) *ℤ pos (1000 * d)
crossed n d = let e : d * 1000 ≡ 1000 * d = omega arith in rw e (ring_ℤ (n ∷ pos (1000 * d) ∷ []) (search reads_ℤ depth 20) tt)

-- a thousandth of a ratio has 1000 times its divisor
pub over_1000 : (n : ℤ) (d : ℕ) → 0 < d → ratio n (1000 * d) ≡ ratio n d *ℚ ratio (pos 1) 1000
unfolding ratio ◌*ℚ◌
over_1000 n d h = glue _ _ (rw (suc-pred-eq_of_pos h, suc-pred-eq_of_pos (mul-pos {m = 1000} (omega arith) h)) (crossed n d))

pub km_are : (d : DecimalRecord) → ratio d.digits (1000 * 10 ^ d.places) ≡ value d *ℚ ratio (pos 1) 1000
unfolding value
km_are d = over_1000 d.digits (10 ^ d.places) (ten_pow_pos d.places)

-- ---- the interval of one number between -1 and 9
pub one_height : {v : Iv} (x : ℚ) → IsTightest (λ y. y ≡ x) v → ratio (negsuc 0) 1 ≤ℚ x → x ≤ℚ ratio (pos 9) 1 → IsGiven v x (between (negsuc 0) 1 (pos 9) 1) 2
one_height {v} x t l h =
    let b = tight_bounded t (λ y e. rw e (abs_le (le_by (x ∷ []) (gap l ⊕ known 31999 1) (search reads depth 90) tt) (le_by (x ∷ []) (gap h ⊕ known 31991 1) (search reads depth 90) tt))) in
    record {
      holds = t.holds x refl;
      bounded = b;
      within = two v.lo v.hi (width_of v) (width_is v) (tight_width zero_ℚ t b refl same);
      inside = inside (negsuc 0) 1 (pos 9) 1 l h;
    }
  where
    same : (y z : ℚ) → y ≡ x → z ≡ x → in_units y ≤ℚ in_units z +ℚ zero_ℚ
    same y z e f = rw (e, f) (le_by (x ∷ []) (known 0 1) (search reads depth 90) tt)

    two : (lo hi : ℤ) (n : ℕ) → pos n ≡ hi -ℤ lo → of_int hi ≤ℚ of_int lo +ℚ zero_ℚ +ℚ ratio (pos 2) 1 → n ≤ 2
    two lo hi n e h =
        let f : hi ≤ℤ (lo +ℤ pos 2) = le_of_int (rw (of_int_add, of_int_is (pos 2)) (le_by (of_int lo ∷ of_int hi ∷ []) (gap h) (search reads depth 90) tt)) in
        omega (arith, ints, e, f)

-- ---- the code's ratio
-- the digits and the divisor, as the code has them
pub record IsKmRatio (d : DecimalRecord) (num den : ℤ) : Type 0 where
  pub digits : to_z w128 (of_z w128 num) ≡ d.digits
  pub divisor : to_z w128 (of_z w128 (pos 1000 *ℤ to_z w128 (of_z w128 den))) ≡ pos (1000 * 10 ^ d.places)

pub km_ratio : (d : DecimalRecord) (num den : ℤ) (scale : ℕ) → IsDecimal d → num ≡ to_z w64 (of_z w64 d.digits) → den ≡ pos scale → scale ≡ 10 ^ d.places → IsKmRatio d num den
km_ratio d num den scale h e f g = record {
  digits = omega (arith, ints, e, h.size);
  divisor = rw (← g) (omega (arith, ints, f, most));
}
  where
    most : scale ≤ 1000000000000000000
    most = rw g (ten_pow_fits d.places h.most_places)

pub positive_km_scale : (d : DecimalRecord) → pos 0 <ℤ pos (1000 * 10 ^ d.places)
positive_km_scale d = let h = ten_pow_pos d.places in omega (arith, ints, h)

pub tightest_of_km : {v : Iv} (d : DecimalRecord) {num den : ℤ} → num ≡ d.digits → den ≡ pos (1000 * 10 ^ d.places) →
    IsTightest (IsRatio num den) v → IsTightest (λ x. x ≡ value d *ℚ ratio (pos 1) 1000) v
tightest_of_km {v} d {num} {den} e f t =
    let k : IsTightest (λ x. x ≡ ratio d.digits (1000 * 10 ^ d.places)) v = rw (e, f) at t in
    subst (λ y. IsTightest (λ x. x ≡ y) v) (km_are d) k

-- the height of a station in kilometres, enclosed
pub height_given : {v : Iv} {x : ℚ} → IsFromTo (neg_ℤ (pos 500)) (pos 9000) x → IsTightest (λ y. y ≡ x *ℚ ratio (pos 1) 1000) v → IsGiven v (x *ℚ ratio (pos 1) 1000) (between (negsuc 0) 1 (pos 9) 1) 2
height_given {v} {x} range t =
    let l = rw (of_int_is (neg_ℤ (pos 500))) at range.least in
    let h = rw (of_int_is (pos 9000)) at range.most in
    one_height (x *ℚ ratio (pos 1) 1000) t (le_by (x ∷ []) (known 1 1000 ⊗ gap l ⊕ known 1 2) (search reads depth 90) tt) (le_by (x ∷ []) (known 1 1000 ⊗ gap h) (search reads depth 90) tt)
