-- The ranges of numbers in fixed point, as ranges of the numbers that decimals stand for.
use Rattle.std.proofs.Common.{◌≡◌, ℕ, suc, pred, ◌*◌, ◌^◌, ◌<◌, ◌≤◌, sym, subst, true, arith}
use Rattle.std.proofs.lemmas.Bool.{leb-true}
use Rattle.std.proofs.lemmas.Int.{ints}
use Rattle.std.proofs.Math.Nat.{suc-pred-eq_of_pos, one-le-pow, zero-lt-suc}
use lib.IntN.{pos, neg_ℤ}
use Rattle.exact.specs.Rational.{ratio, number, of_int, zero_ℚ, one_ℚ, ◌≤ℚ◌, ◌<ℚ◌}
use Rattle.exact.proofs.Order.{known, le_of_not_negative, le_trans}
use Rattle.exact.proofs.Fractions.{le_of_cross, cross_of_le}
use Rattle.exact.proofs.Integers.{of_int_is, of_int_le}
use Rattle.decimals.specs.OrderLaws.{lt_of_not_le}
use Rattle.decimals.specs.Decimal.{value}
use Rattle.decimals.proofs.UnitsLemmas.{value_normal}
use Rattle.elements.specs.Elements.{IsFromTo}
use Rattle.tle_read.specs.Fields.{FixedPoint, IsBelowOne, decimal_of}
use Rattle.tle_read.specs.Ranges.{is_at_most}

-- a fraction is at most a whole number
ratio_le : (n d k : ℕ) → 0 < d → n ≤ k * d → ratio (pos n) d ≤ℚ of_int (pos k)
unfolding ratio number of_int
ratio_le n d k some h =
    le_of_cross (record { num = pos n; den = suc (pred d); fits = zero-lt-suc _ }) (record { num = pos k; den = 1; fits = zero-lt-suc _ })
    (rw (suc-pred-eq_of_pos some) (omega (arith, ints)))

-- a fraction is below a whole number
ratio_lt : (n d k : ℕ) → 0 < d → n < k * d → ratio (pos n) d <ℚ ratio (pos k) 1
unfolding ratio number
ratio_lt n d k some h =
    lt_of_not_le _ _ (λ back.
    let cross = cross_of_le (record { num = pos k; den = 1; fits = zero-lt-suc _ }) (record { num = pos n; den = suc (pred d); fits = zero-lt-suc _ }) back in
    let whole = rw (suc-pred-eq_of_pos some) at cross in
    omega (arith, ints))

ratio_positive : (n d : ℕ) → 0 < n → zero_ℚ <ℚ ratio (pos n) d
unfolding ratio number
ratio_positive n d some =
    lt_of_not_le _ _ (λ back.
    let cross = cross_of_le (record { num = pos n; den = suc (pred d); fits = zero-lt-suc _ }) (record { num = pos 0; den = 1; fits = zero-lt-suc _ }) back in
    omega (arith, ints))

not_negative : (n d : ℕ) → zero_ℚ ≤ℚ ratio (pos n) d
not_negative n d = le_of_not_negative (known n d)

unit_positive : (places : ℕ) → 0 < 10 ^ places
unit_positive places = one-le-pow places 10 (omega arith)

-- an angle that is at most so many degrees
pub is_angle : (angle : FixedPoint) (most : ℕ) → is_at_most angle most ≡ true → IsFromTo (pos 0) (pos most) (value (decimal_of angle))
is_angle angle most h =
    subst (IsFromTo (pos 0) (pos most)) (sym (value_normal (pos angle.digits) angle.places)) (record {
      least = subst (λ t. t ≤ℚ ratio (pos angle.digits) (10 ^ angle.places)) (sym (of_int_is (pos 0))) (not_negative angle.digits (10 ^ angle.places));
      most = ratio_le angle.digits (10 ^ angle.places) most (unit_positive angle.places) (leb-true _ _ h);
    })

-- the same, among angles on both sides of 0
pub is_any_angle : (angle : FixedPoint) → is_at_most angle 360 ≡ true → IsFromTo (neg_ℤ (pos 360)) (pos 360) (value (decimal_of angle))
is_any_angle angle h =
    let inside = is_angle angle 360 h in
    record { least = le_trans (of_int_le (omega (arith, ints))) inside.least; most = inside.most }

-- a motion whose digits are not all 0
pub is_motion : (motion : FixedPoint) → 0 < motion.digits → zero_ℚ <ℚ value (decimal_of motion)
is_motion motion h = subst (λ t. zero_ℚ <ℚ t) (sym (value_normal (pos motion.digits) motion.places)) (ratio_positive motion.digits (10 ^ motion.places) h)

-- an eccentricity below 1
pub is_ecc : (ecc : FixedPoint) → zero_ℚ ≤ℚ value (decimal_of ecc)
is_ecc ecc = subst (λ t. zero_ℚ ≤ℚ t) (sym (value_normal (pos ecc.digits) ecc.places)) (not_negative ecc.digits (10 ^ ecc.places))

pub is_ecc_below : (ecc : FixedPoint) → IsBelowOne ecc → value (decimal_of ecc) <ℚ one_ℚ
is_ecc_below ecc h = subst (λ t. t <ℚ one_ℚ) (sym (value_normal (pos ecc.digits) ecc.places)) (ratio_lt ecc.digits (10 ^ ecc.places) 1 (unit_positive ecc.places) (omega arith))
