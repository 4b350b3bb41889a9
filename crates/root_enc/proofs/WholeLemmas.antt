-- Powers of whole numbers, and whole numbers as the code keeps them.
use Rattle.std.proofs.Common.{◌≡◌, arith, ap, subst, [], ◌∷◌, ◌+◌, ◌*◌, ◌/◌, ◌%◌, ◌<◌, ◌≤◌, ◌^◌, ℕ, ℤ, pos, negsuc, ◌≤ℤ◌, ◌*ℤ◌, to_z, of_z, w64, mul-le-mul, div-add-mod'}
use Rattle.std.proofs.lemmas.Int.{ints, to_z-of_z}
use lib.Signed.{mag}
use Rattle.exact.specs.Rational.{ℚ, of_int, zero_ℚ, ◌≤ℚ◌}
use Rattle.exact.proofs.RationalRing.{reads}
use Rattle.exact.proofs.Order.{NonNeg, known, le_by, le_refl, not_negative, ◌⊗◌}
use Rattle.exact.proofs.Integers.{of_int_is, of_int_le}
use Rattle.fixed_iv.specs.Ends.{in_units}
use Rattle.fixed_iv.specs.declared.iv.Iv.{Iv}
use Rattle.fixed_iv.proofs.EndLemmas.{low_end_fits, high_end_fits}

-- the cube from the limbs of the square
cube_of_parts : (m q r u v : ℕ) → q * 18446744073709551616 + r ≡ m * m → u * 18446744073709551616 + v ≡ r * m → (q * m + u) * 18446744073709551616 + v ≡ m * m * m
cube_of_parts m q r u v e f = omega (arith, ap (λ t. t * m) e, f)

pub cube_of_limbs : (m : ℕ) →
    (m * m / 18446744073709551616 * m + m * m % 18446744073709551616 * m / 18446744073709551616) * 18446744073709551616 + m * m % 18446744073709551616 * m % 18446744073709551616 ≡ m * m * m
cube_of_limbs m =
    cube_of_parts m (m * m / 18446744073709551616) (m * m % 18446744073709551616) (m * m % 18446744073709551616 * m / 18446744073709551616) (m * m % 18446744073709551616 * m % 18446744073709551616)
    (omega (arith, div-add-mod' (m * m) 18446744073709551616)) (omega (arith, div-add-mod' (m * m % 18446744073709551616 * m) 18446744073709551616))

-- a larger number has the larger square
pub square_rises : (a b : ℤ) → pos 0 ≤ℤ a → a ≤ℤ b → (a *ℤ a) ≤ℤ (b *ℤ b)
square_rises (pos a) (pos b) h k = let l : a ≤ b = omega (arith, ints, k) in omega (arith, ints, mul-le-mul l l)
square_rises (pos a) (negsuc b) h k = absurd (omega (arith, ints, k))
square_rises (negsuc a) b h k = absurd (omega (arith, ints, h))

-- and the larger cube
pub cube_rises : (a b : ℤ) → pos 0 ≤ℤ a → a ≤ℤ b → (a *ℤ a *ℤ a) ≤ℤ (b *ℤ b *ℤ b)
cube_rises (pos a) (pos b) h k = let l : a ≤ b = omega (arith, ints, k) in omega (arith, ints, mul-le-mul (mul-le-mul l l) l)
cube_rises (pos a) (negsuc b) h k = absurd (omega (arith, ints, k))
cube_rises (negsuc a) b h k = absurd (omega (arith, ints, h))

-- the product with the larger number is the larger
pub product_rises : (a b : ℤ) → pos 0 ≤ℤ a → a ≤ℤ b → (a *ℤ b) ≤ℤ (b *ℤ b)
product_rises (pos a) (pos b) h k = let l : a ≤ b = omega (arith, ints, k) in let m : b ≤ b = omega arith in omega (arith, ints, mul-le-mul l m)
product_rises (pos a) (negsuc b) h k = absurd (omega (arith, ints, k))
product_rises (negsuc a) b h k = absurd (omega (arith, ints, h))

-- a whole number of the code's, as a call shows it
pub kept : (n : ℤ) → mag n < 2 ^ 63 → to_z w64 (of_z w64 n) ≡ n
kept n h = to_z-of_z w64 n (record { sfits = h })

-- the ends of an interval
pub kept_low : (x : Iv) → to_z w64 (of_z w64 x.lo) ≡ x.lo
kept_low x = to_z-of_z w64 x.lo (low_end_fits x.lo x.low_end)

pub kept_high : (x : Iv) → to_z w64 (of_z w64 x.hi) ≡ x.hi
kept_high x = to_z-of_z w64 x.hi (high_end_fits x.hi x.high_end)

-- ---- as rational numbers
pub natural : {n : ℤ} → pos 0 ≤ℤ n → NonNeg (of_int n)
natural h = not_negative (rw (← of_int_is (pos 0)) (of_int_le h))

pub not_below : {x : ℚ} → zero_ℚ ≤ℚ x → of_int (pos 0) ≤ℚ in_units x
not_below {x} h = rw (of_int_is (pos 0)) (le_by (x ∷ []) (known 281474976710656 1 ⊗ not_negative h) (search reads depth 90) tt)

pub same : {x y : ℚ} → x ≡ y → x ≤ℚ y
same {x} e = subst (λ t. x ≤ℚ t) e (le_refl x)
