-- Quarter turns: the whole number of them counts modulo 4.
use Rattle.std.proofs.Common.{◌≡◌, arith, ℕ, ◌/◌, ◌<◌, [], ◌∷◌, div-add-mod'}
use Rattle.std.proofs.lemmas.Int.{ints}
use lib.IntN.{ℤ, pos, negsuc, ◌+ℤ◌, ◌*ℤ◌}
use Rattle.exact.specs.Rational.{ℚ, ◌+ℚ◌, ◌*ℚ◌, ratio, of_int}
use Rattle.exact.proofs.RationalRing.{ring, reads}
use Rattle.exact.proofs.Integers.{of_int_add, of_int_mul, of_int_is}
use Rattle.sgp4_model.specs.Angle.{IsSinCos, quadrant, reduced}

-- each whole number is 4 times one, and its quadrant
pub quadrant_is : (k : ℤ) → (q : ℤ) × (k ≡ pos 4 *ℤ q +ℤ pos (quadrant k))
unfolding quadrant
quadrant_is (pos n) = (pos (n / 4), omega (arith, ints, div-add-mod' n 4))
quadrant_is (negsuc n) = (negsuc (n / 4), omega (arith, ints, div-add-mod' n 4))

-- the quadrant is below 4
pub quadrant_lt : (k : ℤ) → quadrant k < 4
unfolding quadrant
quadrant_lt (pos n) = omega arith
quadrant_lt (negsuc n) = omega arith

-- the quadrant is the one number below 4 that differs by a multiple of 4
pub quadrant_by : (k q : ℤ) (r : ℕ) → r < 4 → k ≡ pos 4 *ℤ q +ℤ pos r → quadrant k ≡ r
quadrant_by k q r h e = omega (arith, ints, h, e, quadrant_lt k, (quadrant_is k).1)

-- four quarter turns more make no difference
pub quadrant_turns : (k j : ℤ) → quadrant (k +ℤ pos 4 *ℤ j) ≡ quadrant k
quadrant_turns k j = quadrant_by (k +ℤ pos 4 *ℤ j) ((quadrant_is k).0 +ℤ j) (quadrant k) (quadrant_lt k) (omega (arith, ints, (quadrant_is k).1))

-- whole turns, taken off as quarter turns
reduced_turns : (pi x : ℚ) (k j : ℤ) → reduced pi (x +ℚ of_int j *ℚ (ratio (pos 2) 1 *ℚ pi)) (k +ℤ pos 4 *ℤ j) ≡ reduced pi x k
reduced_turns pi x k j =
    rw (of_int_add k (pos 4 *ℤ j), of_int_mul (pos 4) j, of_int_is (pos 4))
    (ring (pi ∷ x ∷ of_int k ∷ of_int j ∷ []) (search reads depth 90) tt)

-- a pair of an angle is a pair after whole turns
pub keep_pairs : (pi x s c : ℚ) (j : ℤ) → IsSinCos pi x s c → IsSinCos pi (x +ℚ of_int j *ℚ (ratio (pos 2) 1 *ℚ pi)) s c
keep_pairs pi x s c j h =
    record {
      quarters = h.quarters +ℤ pos 4 *ℤ j;
      inner = h.inner;
      in_range = rw (reduced_turns pi x h.quarters j) h.in_range;
      sine_near = rw (reduced_turns pi x h.quarters j) h.sine_near;
      cosine_near = rw (reduced_turns pi x h.quarters j) h.cosine_near;
      sine_is = rw (quadrant_turns h.quarters j) h.sine_is;
      cosine_is = rw (quadrant_turns h.quarters j) h.cosine_is;
    }
