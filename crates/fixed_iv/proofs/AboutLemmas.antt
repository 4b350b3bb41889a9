-- Whole units about numbers that need no cut.
use Rattle.std.proofs.Common.{◌≡◌, refl, arith, sym, subst, [], ◌∷◌, ℤ, pos, negsuc, neg_ℤ, ◌≤ℤ◌, FitsSigned, to_z, of_z}
use Rattle.std.proofs.lemmas.Int.{ints, to_z-of_z}
use mir.Val.{SFits}
use mir.Syntax.{w64}
use Rattle.exact.specs.Rational.{ℚ, of_int, ratio, ◌*ℚ◌, ◌≤ℚ◌}
use Rattle.exact.proofs.RationalRing.{reads}
use Rattle.exact.proofs.Order.{gap, known, le_by, le_trans, ◌⊗◌}
use Rattle.exact.proofs.Integers.{le_of_int, of_int_is, of_int_le, of_int_neg, ratio_is_product}
use Rattle.fixed_iv.specs.Corners.{IsCutHigh, IsCutLow}
use Rattle.fixed_iv.specs.Ends.{IsHighEnd, IsLowEnd}
use Rattle.fixed_iv.specs.Rounding.{IsCeiling, IsFloor}

-- a whole number within 2^62 of 0
pub record IsSafe (z : ℤ) : Type 0 where
  pub least : neg_ℤ (pos 4611686018427387904) ≤ℤ z
  pub most : z ≤ℤ pos 4611686018427387904

-- in 2^-48 parts of a unit
pub record IsSafeParts (n : ℤ) : Type 0 where
  pub least : neg_ℤ (pos 1298074214633706907132624082305024) ≤ℤ n
  pub most : n ≤ℤ pos 1298074214633706907132624082305024

parts_above : (n : ℤ) → neg_ℤ (pos 1298074214633706907132624082305024) ≤ℤ n → of_int (neg_ℤ (pos 4611686018427387904)) ≤ℚ ratio n 281474976710656
parts_above n h = rw (ratio_is_product n 281474976710656) (by_int (of_int_le h))
  where
    by_int : of_int (neg_ℤ (pos 1298074214633706907132624082305024)) ≤ℚ of_int n → of_int (neg_ℤ (pos 4611686018427387904)) ≤ℚ of_int n *ℚ ratio (pos 1) 281474976710656
    by_int k = rw (of_int_neg (pos 4611686018427387904), of_int_is (pos 4611686018427387904))
        (le_by (of_int n ∷ []) (known 1 281474976710656 ⊗ gap (rw (of_int_neg (pos 1298074214633706907132624082305024), of_int_is (pos 1298074214633706907132624082305024)) at k)) (search reads depth 90) tt)

parts_below : (n : ℤ) → n ≤ℤ pos 1298074214633706907132624082305024 → ratio n 281474976710656 ≤ℚ of_int (pos 4611686018427387904)
parts_below n h = rw (ratio_is_product n 281474976710656) (by_int (of_int_le h))
  where
    by_int : of_int n ≤ℚ of_int (pos 1298074214633706907132624082305024) → of_int n *ℚ ratio (pos 1) 281474976710656 ≤ℚ of_int (pos 4611686018427387904)
    by_int k = rw (of_int_is (pos 4611686018427387904)) (le_by (of_int n ∷ []) (known 1 281474976710656 ⊗ gap (rw (of_int_is (pos 1298074214633706907132624082305024)) at k)) (search reads depth 90) tt)

pub safe_floor : {n low : ℤ} → IsFloor (ratio n 281474976710656) low → IsSafeParts n → IsSafe low
safe_floor {n} f s = record { least = f.greatest _ (parts_above n s.least); most = le_of_int (le_trans f.under (parts_below n s.most)) }

pub safe_ceiling : {n high : ℤ} → IsCeiling (ratio n 281474976710656) high → IsSafeParts n → IsSafe high
safe_ceiling {n} f s = record { least = le_of_int (le_trans (parts_above n s.least) f.over); most = f.least _ (parts_below n s.most) }

pub about_ordered : {n m low high : ℤ} → n ≤ℤ m → IsFloor (ratio n 281474976710656) low → IsCeiling (ratio m 281474976710656) high → low ≤ℤ high
about_ordered {n} {m} h f c = le_of_int (le_trans f.under (le_trans (ratios (of_int_le h)) c.over))
  where
    ratios : of_int n ≤ℚ of_int m → ratio n 281474976710656 ≤ℚ ratio m 281474976710656
    ratios k = rw (ratio_is_product n 281474976710656, ratio_is_product m 281474976710656) (le_by (of_int n ∷ of_int m ∷ []) (known 1 281474976710656 ⊗ gap k) (search reads depth 90) tt)

-- ---- the whole numbers next to a number are the only ones
one_floor : {x : ℚ} {low other : ℤ} → IsFloor x low → IsFloor x other → other ≡ low
one_floor f g = let a = f.greatest _ g.under in let b = g.greatest _ f.under in omega (arith, ints, a, b)

one_ceiling : {x : ℚ} {high other : ℤ} → IsCeiling x high → IsCeiling x other → other ≡ high
one_ceiling f g = let a = f.least _ g.over in let b = g.least _ f.over in omega (arith, ints, a, b)

pub low_about : {x : ℚ} {low lo other : ℤ} → IsFloor x low → IsCutLow low lo → IsFloor x other → IsCutLow other lo
low_about {lo = lo} f cut g = subst (λ t. IsCutLow t lo) (sym (one_floor f g)) cut

pub high_about : {x : ℚ} {high hi other : ℤ} → IsCeiling x high → IsCutHigh high hi → IsCeiling x other → IsCutHigh other hi
high_about {hi = hi} f cut g = subst (λ t. IsCutHigh t hi) (sym (one_ceiling f g)) cut

pub safe_low : {low : ℤ} → IsSafe low → IsCutLow low low
safe_low s = record { past = λ l. absurd (omega (arith, ints, l, s.most)); before = λ l. absurd (omega (arith, ints, l, s.least)); between = λ _ _. refl }

pub safe_high : {high : ℤ} → IsSafe high → IsCutHigh high high
safe_high s = record { past = λ l. absurd (omega (arith, ints, l, s.most)); before = λ l. absurd (omega (arith, ints, l, s.least)); between = λ _ _. refl }

-- ---- as the code keeps them
safe_fits : (z : ℤ) → IsSafe z → SFits w64 z
safe_fits (pos n) s = record { sfits = omega (arith, ints, s.most) }
safe_fits (negsuc n) s = record { sfits = omega (arith, ints, s.least) }

pub safe_kept : {z : ℤ} → IsSafe z → to_z w64 (of_z w64 z) ≡ z
safe_kept {z} s = to_z-of_z w64 z (safe_fits z s)

pub safe_cast : {z : ℤ} → IsSafe z → FitsSigned w64 z
safe_cast {z} s = safe_fits z s

pub safe_low_end : {z : ℤ} → IsSafe z → IsLowEnd z
safe_low_end s = record { least = omega (arith, ints, s.least); most = omega (arith, ints, s.most) }

pub safe_high_end : {z : ℤ} → IsSafe z → IsHighEnd z
safe_high_end s = record { least = omega (arith, ints, s.least); most = omega (arith, ints, s.most) }

pub safe_order : {x y : ℤ} (u v : ℤ) → u ≡ x → v ≡ y → IsSafe x → IsSafe y → x ≤ℤ y → to_z w64 (of_z w64 u) ≤ℤ to_z w64 (of_z w64 v)
safe_order u v e f s t h = rw (e, f, safe_kept s, safe_kept t) h

pub kept_safe_low : {x : ℤ} (u : ℤ) → u ≡ x → IsSafe x → IsLowEnd (to_z w64 (of_z w64 u))
kept_safe_low u e s = rw (e, safe_kept s) (safe_low_end s)

pub kept_safe_high : {x : ℤ} (u : ℤ) → u ≡ x → IsSafe x → IsHighEnd (to_z w64 (of_z w64 u))
kept_safe_high u e s = rw (e, safe_kept s) (safe_high_end s)
