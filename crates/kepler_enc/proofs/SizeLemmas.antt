-- Bounds, their sizes, and points, as numbers.
use Rattle.std.proofs.Common.{refl, sym, ◌≡◌, arith, [], ◌∷◌, ◌+◌, ◌^◌, ◌<◌, ◌≤◌, max, ℕ, ℤ, pos, negsuc, neg_ℤ, ◌≤ℤ◌, unsigned_abs}
use Rattle.std.proofs.lemmas.Int.{ints, by_lt_z}
use Rattle.exact.specs.Rational.{ℚ, of_int, ratio, ◌+ℚ◌, ◌-ℚ◌, zero_ℚ, one_ℚ, ◌≤ℚ◌}
use Rattle.exact.proofs.RationalRing.{ring, reads}
use Rattle.exact.proofs.Order.{NonNeg, gap, known, le_by, le_trans, not_negative, same_sign, ◌⊕◌, ◌⊗◌}
use Rattle.exact.proofs.Integers.{ratio_is_product, of_int_add, of_int_is, of_int_le, of_int_neg}
use Rattle.exact.proofs.Strict.{Positive, not_both, positive_by, positive_known}
use Rattle.sgp4_model.specs.Angle.{IsNear, part}
use Rattle.sgp4_model.specs.PairLaws.{IsModest}
use Rattle.fixed_iv.specs.Ends.{in_units}
use Rattle.fixed_iv.specs.Extent.{size}
use Rattle.fixed_iv.specs.Holds.{Holds, IsBounded}
use Rattle.fixed_iv.specs.declared.iv.Iv.{Iv}
use Rattle.kepler_enc.specs.Point.{at}
use Rattle.fixed_iv.proofs.HeldLemmas.{holds_whole}
use Rattle.kepler_enc.specs.Radius.{IsAboutZero}

-- ---- sizes
pub low_in_size : (l h : ℤ) → neg_ℤ (pos (max (unsigned_abs l) (unsigned_abs h))) ≤ℤ l
low_in_size (pos l) (pos h) = omega (arith, ints)
low_in_size (pos l) (negsuc h) = omega (arith, ints)
low_in_size (negsuc l) (pos h) = omega (arith, ints)
low_in_size (negsuc l) (negsuc h) = omega (arith, ints)

pub high_in_size : (l h : ℤ) → h ≤ℤ pos (max (unsigned_abs l) (unsigned_abs h))
high_in_size (pos l) (pos h) = omega (arith, ints)
high_in_size (pos l) (negsuc h) = omega (arith, ints)
high_in_size (negsuc l) (pos h) = omega (arith, ints)
high_in_size (negsuc l) (negsuc h) = omega (arith, ints)

near_by_units : (n : ℤ) (x : ℚ) → of_int (neg_ℤ n) ≤ℚ in_units x → in_units x ≤ℚ of_int n → IsNear (at n) x zero_ℚ
unfolding at
near_by_units n x l h =
    let k = rw (of_int_neg n) at l in
    record {
      above = le_by (of_int n ∷ x ∷ []) (known 1 281474976710656 ⊗ gap h) (search reads depth 90) tt;
      below = le_by (of_int n ∷ x ∷ []) (known 1 281474976710656 ⊗ gap k) (search reads depth 90) tt;
    }

-- a number that bounded bounds hold is no larger than they are
pub near_size : (v : Iv) (x : ℚ) → IsBounded v → Holds v x → IsNear (at (pos (size v))) x zero_ℚ
near_size v x b h = near_by_units (pos (size v)) x (le_trans (of_int_le (low_in_size v.lo v.hi)) (h.low b.low)) (le_trans (h.high b.high) (of_int_le (high_in_size v.lo v.hi)))

-- ---- the interval about 0
units_by_near : (n : ℤ) (x : ℚ) → IsNear (at n) x zero_ℚ → (of_int (neg_ℤ n) ≤ℚ in_units x) × (in_units x ≤ℚ of_int n)
unfolding at
units_by_near n x h = (
  rw (of_int_neg n) (le_by (of_int n ∷ x ∷ []) (known 281474976710656 1 ⊗ gap h.below) (search reads depth 90) tt),
  le_by (of_int n ∷ x ∷ []) (known 281474976710656 1 ⊗ gap h.above) (search reads depth 90) tt,
)

pub holds_about : {radius : ℕ} {v : Iv} {x : ℚ} → IsAboutZero radius v → IsNear (at (pos radius)) x zero_ℚ → Holds v x
holds_about {radius} {v} {x} h k =
    by_lt_z (pos radius) (pos (2 ^ 62))
    (λ p. let u = units_by_near (pos radius) x k in record { low = λ _. rw (h.low (omega (arith, ints, p))) u.0; high = λ _. rw (h.high (omega (arith, ints, p))) u.1 })
    (λ p. holds_whole (h.far (omega (arith, ints, p))) x)

-- ---- points
near_zero : (n : ℤ) → negsuc 9223372036854775807 ≤ℤ n → n ≤ℤ pos 9223372036854775808 → IsNear (ratio (pos 65536) 1) (at n) zero_ℚ
unfolding at
near_zero n l h =
    let p = rw (of_int_is (negsuc 9223372036854775807)) at (of_int_le l) in
    let q = rw (of_int_is (pos 9223372036854775808)) at (of_int_le h) in
    record {
      above = le_by (of_int n ∷ []) (known 1 281474976710656 ⊗ gap q ⊕ known 32768 1) (search reads depth 90) tt;
      below = le_by (of_int n ∷ []) (known 1 281474976710656 ⊗ gap p ⊕ known 32768 1) (search reads depth 90) tt;
    }

pub near_point : (v : Iv) → IsNear (ratio (pos 65536) 1) (at v.lo) zero_ℚ
near_point v = near_zero v.lo v.low_end.least (omega (arith, ints, v.low_end.most))

pub modest : {x : ℚ} → IsNear (ratio (pos 65536) 1) x zero_ℚ → IsModest x
modest {x} h = record {
  low = le_by (x ∷ []) (gap h.below ⊕ known 983040 1) (search reads depth 90) tt;
  high = le_by (x ∷ []) (gap h.above ⊕ known 983040 1) (search reads depth 90) tt;
}

-- a bounded interval's size
pub size_at : (v : Iv) → at (pos (size v)) ≤ℚ ratio (pos 65536) 1
unfolding at
size_at v =
    let h = rw (of_int_is (pos 9223372036854775808)) at (of_int_le (limit v.lo v.hi v.low_end.least v.low_end.most v.high_end.least v.high_end.most)) in
    le_by (of_int (pos (size v)) ∷ []) (known 1 281474976710656 ⊗ gap h ⊕ known 32768 1) (search reads depth 90) tt
  where
    limit : (l h : ℤ) → negsuc 9223372036854775807 ≤ℤ l → l ≤ℤ pos 9223372036854775806 → negsuc 9223372036854775806 ≤ℤ h → h ≤ℤ pos 9223372036854775807 → pos (max (unsigned_abs l) (unsigned_abs h)) ≤ℤ pos 9223372036854775808
    limit (pos l) (pos h) a b c d = omega (arith, ints, b, d)
    limit (pos l) (negsuc h) a b c d = omega (arith, ints, b, c)
    limit (negsuc l) (pos h) a b c d = omega (arith, ints, a, d)
    limit (negsuc l) (negsuc h) a b c d = omega (arith, ints, a, c)

-- ---- the guard
pub sizes_add : (m n : ℕ) → at (pos m) +ℚ at (pos n) ≤ℚ at (pos (m + n))
unfolding at
sizes_add m n = rw (of_int_add (pos m) (pos n)) (le_by (of_int (pos m) ∷ of_int (pos n) ∷ []) (known 0 1) (search reads depth 90) tt)

pub below_one : (n : ℕ) → n < 2 ^ 48 → Positive (one_ℚ -ℚ at (pos n))
unfolding at
below_one n h =
    let k = rw (of_int_is (pos 281474976710655)) at (of_int_le {a = pos n} {b = pos 281474976710655} (omega (arith, ints))) in
    positive_by (λ p. not_both (positive_known 0 281474976710656) (same_sign (ring (of_int (pos n) ∷ []) (search reads depth 90) tt) (p ⊕ known 1 281474976710656 ⊗ gap k)))

pub at_most_one : {n : ℕ} → n ≤ 2 ^ 48 → at (pos n) ≤ℚ one_ℚ
unfolding at
at_most_one {n} h =
    let k = rw (of_int_is (pos 281474976710656)) at (of_int_le {a = pos n} {b = pos 281474976710656} (omega (arith, ints))) in
    le_by (of_int (pos n) ∷ []) (known 1 281474976710656 ⊗ gap k) (search reads depth 90) tt

pub at_most_half : {n : ℕ} → n ≤ 2 ^ 47 → at (pos n) ≤ℚ ratio (pos 1) 2
unfolding at
at_most_half {n} h =
    let k = rw (of_int_is (pos 140737488355328)) at (of_int_le {a = pos n} {b = pos 140737488355328} (omega (arith, ints))) in
    le_by (of_int (pos n) ∷ []) (known 1 281474976710656 ⊗ gap k) (search reads depth 90) tt

pub not_below_zero : (n : ℕ) → NonNeg (at (pos n))
unfolding at
not_below_zero n = not_negative (rw (← of_int_is (pos 0)) (of_int_le {a = pos 0} {b = pos n} (omega (arith, ints)))) ⊗ known 1 281474976710656

pub at_add : (m n : ℕ) → at (pos (m + n)) ≡ at (pos m) +ℚ at (pos n)
unfolding at
at_add m n = rw (of_int_add (pos m) (pos n)) (ring (of_int (pos m) ∷ of_int (pos n) ∷ []) (search reads depth 90) tt)

pub at_numeral : (m : ℕ) → at (pos m) ≡ ratio (pos m) 281474976710656
unfolding at
at_numeral m = sym (ratio_is_product (pos m) 281474976710656)

pub at_next : (m : ℕ) → at (pos (m + 1)) ≡ at (pos m) +ℚ part 48
at_next m = rw (at_add m 1, at_numeral 1) refl
