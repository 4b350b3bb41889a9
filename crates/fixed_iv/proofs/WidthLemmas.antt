-- How wide the tightest interval of some numbers is.
use Rattle.std.proofs.Common.{◌≡◌, arith, [], ◌∷◌, ℕ, ◌+◌, ◌*◌, ◌≤◌, ℤ, pos, negsuc, neg_ℤ, ◌+ℤ◌, ◌≤ℤ◌, unsigned_abs}
use Rattle.std.proofs.lemmas.Int.{ints, by_lt_z}
use Rattle.exact.specs.Rational.{ℚ, of_int, ratio, ◌+ℚ◌, ◌-ℚ◌, ◌*ℚ◌, neg_ℚ, one_ℚ, ◌≤ℚ◌}
use Rattle.exact.proofs.RationalRing.{reads}
use Rattle.exact.proofs.Order.{gap, known, le_by, le_trans, ◌⊕◌, ◌⊗◌}
use Rattle.exact.proofs.Bounds.{le_of_abs}
use Rattle.exact.proofs.Integers.{of_int_add, of_int_mul, of_int_neg, of_int_is, of_int_le, le_of_int}
use Rattle.sgp4_model.proofs.Floor.{floor_ℚ, floor_ℚ_le, le_floor_ℚ}
use Rattle.fixed_iv.specs.Ends.{no_low, no_high, first_end, last_end, in_units}
use Rattle.fixed_iv.specs.Extent.{AreSmall, size, width_of}
use Rattle.fixed_iv.specs.Holds.{Holds, IsBounded, IsTightest}
use Rattle.fixed_iv.specs.declared.iv.Iv.{Iv}
use Rattle.fixed_iv.proofs.OuterLemmas.{width_is}

-- ---- intervals to compare with
from_low : (e : ℤ) → no_low ≤ℤ e → e ≤ℤ last_end → Iv
from_low e p q = record {
  lo = e;
  hi = no_high;
  ordered = omega (arith, ints);
  low_end = record { least = p; most = q };
  high_end = record { least = omega (arith, ints); most = omega (arith, ints) };
}

to_high : (e : ℤ) → first_end ≤ℤ e → e ≤ℤ no_high → Iv
to_high e p q = record {
  lo = no_low;
  hi = e;
  ordered = omega (arith, ints);
  low_end = record { least = omega (arith, ints); most = omega (arith, ints) };
  high_end = record { least = p; most = q };
}

-- 32,000, in units of 2^-48
abbrev small_end : ℤ
small_end = pos 9007199254740992000

small : Iv
small = record {
  lo = neg_ℤ small_end;
  hi = small_end;
  ordered = omega (arith, ints);
  low_end = record { least = omega (arith, ints); most = omega (arith, ints) };
  high_end = record { least = omega (arith, ints); most = omega (arith, ints) };
}

-- ---- bounds of the numbers bound the ends
pub tight_bounded : {numbers : ℚ → Type 0} {v : Iv} → IsTightest numbers v → AreSmall numbers → IsBounded v
unfolding small
tight_bounded {numbers} {v} t s =
    let e = t.inside small (λ x n. let b = le_of_abs (s x n) in record { low = λ _. low x b.0; high = λ _. high x b.1 }) in
    record { low = omega (arith, ints, e.0); high = omega (arith, ints, e.1) }
  where
    low : (x : ℚ) → neg_ℚ (ratio (pos 32000) 1) ≤ℚ x → of_int (neg_ℤ small_end) ≤ℚ in_units x
    low x h = rw (of_int_neg small_end, of_int_is small_end) (le_by (x ∷ []) (known 281474976710656 1 ⊗ gap h) (search reads depth 90) tt)

    high : (x : ℚ) → x ≤ℚ ratio (pos 32000) 1 → in_units x ≤ℚ of_int small_end
    high x h = rw (of_int_is small_end) (le_by (x ∷ []) (known 281474976710656 1 ⊗ gap h) (search reads depth 90) tt)

pub low_under : {numbers : ℚ → Type 0} {v : Iv} (e : ℤ) {x : ℚ} → IsTightest numbers v → IsBounded v → numbers x → ((y : ℚ) → numbers y → of_int e ≤ℚ in_units y) → e ≤ℤ v.lo
unfolding from_low
low_under {v = v} e {x} t b n all =
    by_lt_z last_end e
    (λ p. let q = le_of_int (le_trans (all x n) ((t.holds x n).high b.high)) in absurd (omega (arith, ints, q, b.high)))
    (λ p. by_lt_z e no_low
    (λ q. omega (arith, ints, v.low_end.least))
    (λ q. (t.inside (from_low e q p) (λ y k. record { low = λ _. all y k; high = λ r. absurd (omega (arith, ints, r)) })).0))

pub high_over : {numbers : ℚ → Type 0} {v : Iv} (e : ℤ) {x : ℚ} → IsTightest numbers v → IsBounded v → numbers x → ((y : ℚ) → numbers y → in_units y ≤ℚ of_int e) → v.hi ≤ℤ e
unfolding to_high
high_over {v = v} e {x} t b n all =
    by_lt_z e first_end
    (λ p. let q = le_of_int (le_trans ((t.holds x n).low b.low) (all x n)) in absurd (omega (arith, ints, q, b.low)))
    (λ p. by_lt_z no_high e
    (λ q. omega (arith, ints, v.high_end.most))
    (λ q. (t.inside (to_high e p q) (λ y k. record { low = λ r. absurd (omega (arith, ints, r)); high = λ _. all y k })).1))

-- numbers that differ by at most d units lie within d units and two more
pub tight_width : {numbers : ℚ → Type 0} {v : Iv} (d : ℚ) {x : ℚ} → IsTightest numbers v → IsBounded v → numbers x →
    ((y z : ℚ) → numbers y → numbers z → in_units y ≤ℚ in_units z +ℚ d) → of_int v.hi ≤ℚ of_int v.lo +ℚ d +ℚ ratio (pos 2) 1
tight_width {numbers} {v} d {x} t b n near =
    let low = low_under (floor_ℚ (of_int v.hi -ℚ d -ℚ one_ℚ)) t b n (λ y k. le_trans (floor_ℚ_le _) (from_above y (above y k))) in
    end (floor_ℚ (of_int v.hi -ℚ d -ℚ one_ℚ)) (of_int_le low) (le_floor_ℚ _)
  where
    next : (z : ℚ) → z ≤ℚ of_int (floor_ℚ z +ℤ pos 1)
    next z = rw (of_int_add (floor_ℚ z) (pos 1), of_int_is (pos 1)) (le_floor_ℚ z)

    next_under : (z : ℚ) → of_int (floor_ℚ z +ℤ pos 1) ≤ℚ z +ℚ one_ℚ
    next_under z = rw (of_int_add (floor_ℚ z) (pos 1), of_int_is (pos 1)) (le_by (of_int (floor_ℚ z) ∷ z ∷ []) (gap (floor_ℚ_le z)) (search reads depth 90) tt)

    above : (y : ℚ) → numbers y → of_int v.hi ≤ℚ in_units y +ℚ d +ℚ one_ℚ
    above y k =
        le_trans (of_int_le (high_over (floor_ℚ (in_units y +ℚ d) +ℤ pos 1) t b n (λ z m. le_trans (near z y m k) (next (in_units y +ℚ d)))))
        (next_under (in_units y +ℚ d))

    from_above : (y : ℚ) → of_int v.hi ≤ℚ in_units y +ℚ d +ℚ one_ℚ → of_int v.hi -ℚ d -ℚ one_ℚ ≤ℚ in_units y
    from_above y h = le_by (of_int v.hi ∷ d ∷ y ∷ []) (gap h) (search reads depth 90) tt

    end : (f : ℤ) → of_int f ≤ℚ of_int v.lo → of_int v.hi -ℚ d -ℚ one_ℚ ≤ℚ of_int f +ℚ one_ℚ → of_int v.hi ≤ℚ of_int v.lo +ℚ d +ℚ ratio (pos 2) 1
    end f h k = le_by (of_int f ∷ of_int v.lo ∷ of_int v.hi ∷ d ∷ []) (gap h ⊕ gap k) (search reads depth 90) tt

-- ---- sizes of numbers, and of their differences
-- u lies between -s and s
pub record IsSized (s u : ℚ) : Type 0 where
  pub low : neg_ℚ s ≤ℚ u
  pub high : u ≤ℚ s

pub sized_product : {s w u v : ℚ} → IsSized s u → IsSized w v → u *ℚ v ≤ℚ s *ℚ w
sized_product {s} {w} {u} {v} h k =
    le_by (s ∷ w ∷ u ∷ v ∷ []) (known 1 2 ⊗ (gap h.high ⊗ gap k.low ⊕ gap h.low ⊗ gap k.high)) (search reads depth 90) tt

abbrev pub natural : ℕ → ℚ
natural n = of_int (pos n)

pub natural_add : (m n : ℕ) → natural (m + n) ≡ natural m +ℚ natural n
natural_add m n = of_int_add (pos m) (pos n)

pub natural_mul : (m n : ℕ) → natural (m * n) ≡ natural m *ℚ natural n
natural_mul m n = of_int_mul (pos m) (pos n)

-- a number of a bounded interval, in units
pub sized : {v : Iv} {x : ℚ} → IsBounded v → Holds v x → IsSized (natural (size v)) (in_units x)
sized {v} {x} b h = record {
  low = le_trans (below (size v) (of_int_le (low_size v.lo (size v) (omega arith)))) (h.low b.low);
  high = le_trans (h.high b.high) (of_int_le (high_size v.hi (size v) (omega arith)));
}
  where
    low_size : (z : ℤ) (n : ℕ) → unsigned_abs z ≤ n → neg_ℤ (pos n) ≤ℤ z
    low_size (pos z) n h = omega (arith, ints)
    low_size (negsuc z) n h = omega (arith, ints)

    high_size : (z : ℤ) (n : ℕ) → unsigned_abs z ≤ n → z ≤ℤ pos n
    high_size (pos z) n h = omega (arith, ints)
    high_size (negsuc z) n h = omega (arith, ints)

    below : (n : ℕ) {y : ℚ} → of_int (neg_ℤ (pos n)) ≤ℚ y → neg_ℚ (natural n) ≤ℚ y
    below n h = rw of_int_neg at h

-- two numbers of a bounded interval, in units
pub sized_difference : {v : Iv} {x y : ℚ} → IsBounded v → Holds v x → Holds v y → IsSized (natural (width_of v)) (in_units x -ℚ in_units y)
sized_difference {v} {x} {y} b h k =
    let e : of_int v.hi -ℚ of_int v.lo ≤ℚ natural (width_of v) = wide (of_int_le (omega (arith, ints, width_is v))) in
    record {
      low = le_by (of_int v.lo ∷ of_int v.hi ∷ natural (width_of v) ∷ x ∷ y ∷ []) (gap e ⊕ gap (h.low b.low) ⊕ gap (k.high b.high)) (search reads depth 90) tt;
      high = le_by (of_int v.lo ∷ of_int v.hi ∷ natural (width_of v) ∷ x ∷ y ∷ []) (gap e ⊕ gap (k.low b.low) ⊕ gap (h.high b.high)) (search reads depth 90) tt;
    }
  where
    wide : of_int v.hi ≤ℚ of_int (v.lo +ℤ pos (width_of v)) → of_int v.hi -ℚ of_int v.lo ≤ℚ natural (width_of v)
    wide h = le_by (of_int v.lo ∷ of_int v.hi ∷ natural (width_of v) ∷ []) (gap (rw of_int_add at h)) (search reads depth 90) tt
