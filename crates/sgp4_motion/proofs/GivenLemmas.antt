-- Numbers of an element set as ratios of whole numbers, and their intervals.
use Rattle.std.proofs.Common.{◌≡◌, refl, arith, [], ◌∷◌, subst, ap, ◌∙◌, ℕ, zero, suc, ◌*◌, ◌^◌, ◌<◌, ◌≤◌, T, ℤ, pos, negsuc, ◌+ℤ◌, ◌-ℤ◌, ◌*ℤ◌, ◌≤ℤ◌, ◌<ℤ◌, mul-pos, unsigned_abs, to_z, of_z, FitsSigned}
use Rattle.std.specs.Int.{w64, w128}
use Rattle.std.proofs.lemmas.Int.{ints, by_lt_z, fits_signed_from_abs, fits_signed_mul, to_z-of_z}
use Rattle.std.proofs.Math.Nat.{suc-pred-eq_of_pos, zero-lt-suc}
use Rattle.exact.specs.Rational.{ℚ, glue, ratio, of_int, inverse, ◌*ℚ◌, ◌/ℚ◌, zero_ℚ, ◌≤ℚ◌, ◌<ℚ◌}
use Rattle.exact.proofs.RationalRing.{reads}
use Rattle.exact.proofs.Order.{le_by, gap, known, ◌⊗◌}
use Rattle.exact.proofs.Integers.{of_int_add, of_int_is, of_int_le, ratio_is_product}
use Rattle.exact.specs.Interval.{Interval, Inside}
use Rattle.decimals.specs.Decimal.{DecimalRecord, IsDecimal, value}
use Rattle.decimals.specs.OrderLaws.{not_le}
use Rattle.decimals.proofs.UnitsLemmas.{product_in_code, ten_pow_fits, ten_pow_pos}
use Rattle.fixed_iv.specs.Ends.{in_units}
use Rattle.fixed_iv.specs.Extent.{width_of}
use Rattle.fixed_iv.specs.Holds.{IsTightest}
use Rattle.fixed_iv.specs.Reach.{IsGiven, is_small}
use Rattle.fixed_iv.specs.Results.{IsRatio}
use Rattle.fixed_iv.specs.declared.iv.Iv.{Iv}
use Rattle.fixed_iv.proofs.OuterLemmas.{small_holds, width_is}
use Rattle.fixed_iv.proofs.WidthLemmas.{high_over, low_under, tight_bounded}
use Rattle.sgp4_model.proofs.Floor.{floor_ℚ, floor_ℚ_le, le_floor_ℚ}

-- ---- products and quotients of ratios
ratio_product : (a b : ℤ) (m n : ℕ) → 0 < m → 0 < n → ratio (a *ℤ b) (m * n) ≡ ratio a m *ℚ ratio b n
unfolding ratio ◌*ℚ◌
ratio_product a b m n h k = glue _ _ (rw (suc-pred-eq_of_pos h, suc-pred-eq_of_pos k, suc-pred-eq_of_pos (mul-pos h k)) refl)

ratio_inverse : (n m : ℕ) → 0 < m → ratio (pos m) (suc n) ≡ inverse (ratio (pos (suc n)) m)
unfolding ratio inverse
ratio_inverse n m h = glue _ _ (rw (suc-pred-eq_of_pos h) refl)

pub digits_positive : (z : ℤ) (s : ℕ) → zero_ℚ <ℚ ratio z s → pos 0 <ℤ z
digits_positive z s h =
    by_lt_z (pos 0) z (λ p. p)
    (λ q. absurd (not_le zero_ℚ (ratio z s) h (rw (ratio_is_product z s) (le_by (of_int z ∷ ratio (pos 1) s ∷ []) (gap (below q) ⊗ known 1 s) (search reads depth 90) tt))))
  where
    below : z ≤ℤ pos 0 → of_int z ≤ℚ zero_ℚ
    below q = rw (of_int_is (pos 0)) at (of_int_le q)

pub over_ratio : (a z : ℤ) (m s : ℕ) → 0 < m → 0 < s → pos 0 <ℤ z → ratio (a *ℤ pos s) (unsigned_abs (z *ℤ pos m)) ≡ ratio a m /ℚ ratio z s
over_ratio a (pos (suc n)) m s h k p =
    let e : suc n * m ≡ m * suc n = omega arith in
    rw e (ratio_product a (pos s) m (suc n) h (omega arith) ∙ ap (λ t. ratio a m *ℚ t) (ratio_inverse n s k))
over_ratio a (pos zero) m s h k p = absurd (omega (arith, ints, p))
over_ratio a (negsuc n) m s h k p = absurd (omega (arith, ints, p))

-- ---- as the code forms them
abbrev in_code : ℤ → ℤ → ℤ
in_code f g = to_z w128 (of_z w128 (to_z w128 (of_z w128 f) *ℤ to_z w128 (of_z w128 g)))

-- the digits times a factor
pub digits_in_code : (d : DecimalRecord) (m : ℕ) {f g : ℤ} → IsDecimal d → m ≤ 10 ^ 18 → f ≡ to_z w64 (of_z w64 d.digits) → g ≡ pos m → in_code f g ≡ d.digits *ℤ pos m
digits_in_code d m {f} {g} h k e i = product_in_code d.digits f g m h.size k (omega (arith, ints, e, h.size)) i

-- a factor times the power of ten
pub scale_in_code : (d : DecimalRecord) (n scale : ℕ) {f g : ℤ} → IsDecimal d → n < 10 ^ 18 → f ≡ pos n → g ≡ pos scale → scale ≡ 10 ^ d.places → in_code f g ≡ pos n *ℤ pos (10 ^ d.places)
scale_in_code d n scale {f} {g} h k e i s = product_in_code (pos n) f g (10 ^ d.places) k (ten_pow_fits d.places h.most_places) e (i ∙ ap pos s)

pub scaled_is : {v : Iv} (d : DecimalRecord) (num den : ℕ) {top bottom : ℤ} → 0 < den → top ≡ d.digits *ℤ pos num → bottom ≡ pos den *ℤ pos (10 ^ d.places) →
    IsTightest (IsRatio top bottom) v → IsTightest (λ x. x ≡ value d *ℚ ratio (pos num) den) v
unfolding value
scaled_is {v} d num den {top} {bottom} h e f t =
    let k : IsTightest (λ x. x ≡ ratio (d.digits *ℤ pos num) (den * 10 ^ d.places)) v = rw (e, f) at t in
    let swap : den * 10 ^ d.places ≡ 10 ^ d.places * den = omega arith in
    subst (λ y. IsTightest (λ x. x ≡ y) v) (ap (ratio (d.digits *ℤ pos num)) swap ∙ ratio_product d.digits (pos num) (10 ^ d.places) den (ten_pow_pos d.places) h) k

pub over_is : {v : Iv} (d : DecimalRecord) (num den : ℕ) {top bottom : ℤ} → 0 < den → zero_ℚ <ℚ value d → top ≡ pos num *ℤ pos (10 ^ d.places) → bottom ≡ d.digits *ℤ pos den →
    IsTightest (IsRatio top bottom) v → IsTightest (λ x. x ≡ ratio (pos num) den /ℚ value d) v
unfolding value
over_is {v} d num den {top} {bottom} h p e f t =
    let k : IsTightest (λ x. x ≡ ratio (pos num *ℤ pos (10 ^ d.places)) (unsigned_abs (d.digits *ℤ pos den))) v = rw (e, f) at t in
    subst (λ y. IsTightest (λ x. x ≡ y) v) (over_ratio (pos num) d.digits den (10 ^ d.places) h (ten_pow_pos d.places) (digits_positive d.digits (10 ^ d.places) p)) k

-- ---- the tightest interval of one number
pub one_number : {v : Iv} {x : ℚ} (i : Interval) → IsTightest (λ y. y ≡ x) v → Inside i x → T (is_small i) → IsGiven v x i 1
one_number {v} {x} i t h s =
    let b = tight_bounded t (λ y e. rw e (small_holds i x s h)) in
    let l = low_under (floor_ℚ (in_units x)) t b refl (λ y e. rw e (floor_ℚ_le (in_units x))) in
    let k = high_over (floor_ℚ (in_units x) +ℤ pos 1) t b refl (λ y e. rw (e, of_int_add (floor_ℚ (in_units x)) (pos 1), of_int_is (pos 1)) (le_floor_ℚ (in_units x))) in
    record {
      holds = t.holds x refl;
      bounded = b;
      within = narrow v.lo v.hi (floor_ℚ (in_units x)) (width_of v) (width_is v) l k;
      inside = h;
    }
  where
    narrow : (lo hi f : ℤ) (n : ℕ) → pos n ≡ hi -ℤ lo → f ≤ℤ lo → hi ≤ℤ (f +ℤ pos 1) → n ≤ 1
    narrow lo hi f n e p q = omega (arith, ints, e, p, q)

-- ---- the divisors are positive, and the code's products fit
pub positive_in_code : (den places : ℕ) → 0 < den → pos 0 <ℤ (pos den *ℤ pos (10 ^ places))
positive_in_code den places h = let k = mul-pos h (ten_pow_pos places) in omega (arith, ints, k)

pub positive_digits : (d : DecimalRecord) (den : ℕ) → 0 < den → zero_ℚ <ℚ value d → pos 0 <ℤ (d.digits *ℤ pos den)
unfolding value
positive_digits d den h p = positive_product_ℤ d.digits den h (digits_positive d.digits (10 ^ d.places) p)
  where
    positive_product_ℤ : (z : ℤ) (n : ℕ) → 0 < n → pos 0 <ℤ z → pos 0 <ℤ (z *ℤ pos n)
    positive_product_ℤ (pos (suc z)) n h p = let k = mul-pos (zero-lt-suc z) h in omega (arith, ints, k)
    positive_product_ℤ (pos zero) n h p = absurd (omega (arith, ints, p))
    positive_product_ℤ (negsuc z) n h p = absurd (omega (arith, ints, p))

pub fits_in_code : (d : DecimalRecord) (n scale : ℕ) {f g : ℤ} → IsDecimal d → n < 10 ^ 18 → f ≡ pos n → g ≡ pos scale → scale ≡ 10 ^ d.places →
    FitsSigned w128 (to_z w128 (of_z w128 f) *ℤ to_z w128 (of_z w128 g))
fits_in_code d n scale {f} {g} h k e i s =
    let room = ten_pow_fits d.places h.most_places in
    let m : scale ≤ 1000000000000000000 = rw (← s) at room in
    rw (e, i, to_z-of_z w128 (pos n) (fits_signed_from_abs w128 (pos n) (omega arith)), to_z-of_z w128 (pos scale) (fits_signed_from_abs w128 (pos scale) (omega arith)))
    (fits_signed_mul w128 (pos n) (pos scale) (10 ^ 18) (10 ^ 18) (omega arith) m (omega arith))
