-- Whole radii as numbers.
use Rattle.std.proofs.Common.{◌≡◌, arith, [], ◌∷◌, ◌+◌, ◌-◌, ◌*◌, ◌/◌, ◌^◌, ◌<◌, ◌≤◌, ℕ, pos}
use Rattle.std.proofs.lemmas.Int.{ints}
use Rattle.exact.specs.Rational.{of_int, ratio, ◌+ℚ◌, ◌-ℚ◌, ◌*ℚ◌, one_ℚ, ◌≤ℚ◌}
use Rattle.exact.proofs.RationalRing.{reads}
use Rattle.exact.proofs.Order.{NonNeg, gap, known, le_by, le_trans, not_negative, ◌⊕◌, ◌⊗◌}
use Rattle.exact.proofs.Integers.{of_int_add, of_int_is, of_int_le, of_int_mul}
use Rattle.sgp4_model.specs.Angle.{part}
use Rattle.kepler_enc.specs.Point.{at}
use Rattle.kepler_enc.specs.Radius.{IsNextAbove}

natural : (n : ℕ) → NonNeg (of_int (pos n))
natural n = not_negative (rw (← of_int_is (pos 0)) (of_int_le (omega (arith, ints))))

-- m * 2^48 ≤ radius * (2^48 - sum), in units
pub in_fractions : (m sum radius g : ℕ) → g + sum ≡ 281474976710656 → m * 281474976710656 ≤ radius * g →
    at (pos m) ≤ℚ at (pos radius) *ℚ (one_ℚ -ℚ at (pos sum))
unfolding at
in_fractions m sum radius g e h =
    let k : of_int (pos m) *ℚ ratio (pos 281474976710656) 1 ≤ℚ of_int (pos radius) *ℚ of_int (pos g) = rw (← of_int_is (pos 281474976710656), ← of_int_mul, ← of_int_mul) (of_int_le (omega (arith, ints))) in
    let f : of_int (pos g) +ℚ of_int (pos sum) ≤ℚ ratio (pos 281474976710656) 1 = rw (← of_int_is (pos 281474976710656), ← of_int_add) (of_int_le (omega (arith, ints))) in
    le_by (of_int (pos m) ∷ of_int (pos radius) ∷ of_int (pos g) ∷ of_int (pos sum) ∷ [])
    (known 1 (2 ^ 96) ⊗ gap k ⊕ known 1 (2 ^ 96) ⊗ natural radius ⊗ gap f) (search reads depth 90) tt

-- the radius of the ball times 1 - l is at least what is left and a unit
pub ball_enough : (left sum radius : ℕ) → sum < 2 ^ 48 → IsNextAbove ((left + 1) * 2 ^ 48) (2 ^ 48 - sum) radius →
    at (pos left) +ℚ part 48 ≤ℚ at (pos radius) *ℚ (one_ℚ -ℚ at (pos sum))
unfolding at
ball_enough left sum radius below h =
    let k = in_fractions (left + 1) sum radius (2 ^ 48 - sum) (omega arith) (omega (arith, h.over)) in
    le_trans (rw (of_int_add (pos left) (pos 1), of_int_is (pos 1)) (le_by (of_int (pos left) ∷ []) (known 0 1) (search reads depth 90) tt)) k

-- l * n^2 / 2 and a unit, rounded up
pub bend_enough : (sum n : ℕ) →
    ratio (pos 1) 2 *ℚ at (pos sum) *ℚ (at (pos n) *ℚ at (pos n)) +ℚ part 48 ≤ℚ at (pos (sum * (n * n / 2 ^ 49 + 1) / 2 ^ 48 + 2))
unfolding at
bend_enough sum n = whole (n * n / 2 ^ 49 + 1) (sum * (n * n / 2 ^ 49 + 1) / 2 ^ 48 + 2) (omega arith) (above (sum * (n * n / 2 ^ 49 + 1)))
  where
    above : (m : ℕ) → m + 2 ^ 48 ≤ (m / 2 ^ 48 + 2) * 2 ^ 48
    above m = omega arith

    whole : (half bend : ℕ) → n * n ≤ half * 562949953421312 → sum * half + 281474976710656 ≤ bend * 281474976710656 →
        ratio (pos 1) 2 *ℚ (of_int (pos sum) *ℚ ratio (pos 1) 281474976710656) *ℚ (of_int (pos n) *ℚ ratio (pos 1) 281474976710656 *ℚ (of_int (pos n) *ℚ ratio (pos 1) 281474976710656)) +ℚ part 48
        ≤ℚ of_int (pos bend) *ℚ ratio (pos 1) 281474976710656
    whole half bend e f =
        let a : of_int (pos n) *ℚ of_int (pos n) ≤ℚ of_int (pos half) *ℚ ratio (pos 562949953421312) 1 = rw (← of_int_is (pos 562949953421312), ← of_int_mul, ← of_int_mul) (of_int_le (omega (arith, ints, e))) in
        let b : of_int (pos sum) *ℚ of_int (pos half) +ℚ ratio (pos 281474976710656) 1 ≤ℚ of_int (pos bend) *ℚ ratio (pos 281474976710656) 1 =
        rw (← of_int_is (pos 281474976710656), ← of_int_mul, ← of_int_mul, ← of_int_add) (of_int_le (omega (arith, ints, f))) in
        le_by (of_int (pos sum) ∷ of_int (pos n) ∷ of_int (pos half) ∷ of_int (pos bend) ∷ [])
        (known 1 (2 ^ 145) ⊗ natural sum ⊗ gap a ⊕ known 1 (2 ^ 96) ⊗ gap b) (search reads depth 90) tt

-- the radius of the rest times 1 - l is at least that
pub rest_enough : (sum n radius : ℕ) → sum < 2 ^ 48 → IsNextAbove ((sum * (n * n / 2 ^ 49 + 1) / 2 ^ 48 + 2) * 2 ^ 48) (2 ^ 48 - sum) radius →
    ratio (pos 1) 2 *ℚ at (pos sum) *ℚ (at (pos n) *ℚ at (pos n)) +ℚ part 48 ≤ℚ at (pos radius) *ℚ (one_ℚ -ℚ at (pos sum))
rest_enough sum n radius below h =
    le_trans (bend_enough sum n) (in_fractions (sum * (n * n / 2 ^ 49 + 1) / 2 ^ 48 + 2) sum radius (2 ^ 48 - sum) (omega arith) (omega (arith, h.over)))
