-- The opposite angle has the opposite sine and the same cosine.
use Rattle.std.proofs.Common.{◌≡◌, arith, ℕ, zero, suc, ◌<◌, [], ◌∷◌, refl, ap}
use Rattle.std.proofs.lemmas.Int.{ints}
use lib.IntN.{ℤ, pos, ◌+ℤ◌, neg_ℤ}
use Rattle.exact.specs.Rational.{ℚ, neg_ℚ, of_int}
use Rattle.exact.proofs.RationalRing.{ring, reads}
use Rattle.exact.proofs.Order.{gap, le_by}
use Rattle.exact.proofs.Integers.{of_int_neg}
use Rattle.sgp4_model.specs.Angle.{Pair, quadrant, turned, reduced}
use Rattle.sgp4_model.specs.PairLaws.{ReflectionKeepsPairs}
use Rattle.sgp4_model.proofs.Near.{near_neg}
use Rattle.sgp4_model.proofs.Horner.{sine_neg, cosine_neg}
use Rattle.sgp4_model.proofs.Turns.{quadrant_is, quadrant_lt, quadrant_by}
use Rattle.sgp4_model.proofs.PairLaws.{neg_neg, too_many}

-- the opposite sine and the same cosine
abbrev mirrored : Pair → Pair
mirrored p = record { sine = neg_ℚ p.sine; cosine = p.cosine }

-- as many quarter turns back
turned_back_by : (k : ℤ) (n : ℕ) (p : Pair) → n < 4 → quadrant k ≡ n → turned (quadrant (neg_ℤ k)) (mirrored p) ≡ mirrored (turned n p)
unfolding turned
turned_back_by k zero p h e = rw (quadrant_by (neg_ℤ k) (neg_ℤ (quadrant_is k).0) 0 (omega arith) (omega (arith, ints, e, (quadrant_is k).1))) refl
turned_back_by k (suc zero) p h e =
    rw (quadrant_by (neg_ℤ k) (neg_ℤ ((quadrant_is k).0 +ℤ pos 1)) 3 (omega arith) (omega (arith, ints, e, (quadrant_is k).1))) refl
turned_back_by k (suc (suc zero)) p h e =
    rw (quadrant_by (neg_ℤ k) (neg_ℤ ((quadrant_is k).0 +ℤ pos 1)) 2 (omega arith) (omega (arith, ints, e, (quadrant_is k).1))) refl
turned_back_by k (suc (suc (suc zero))) p h e =
    rw (quadrant_by (neg_ℤ k) (neg_ℤ ((quadrant_is k).0 +ℤ pos 1)) 1 (omega arith) (omega (arith, ints, e, (quadrant_is k).1)), neg_neg p.sine, neg_neg p.cosine) refl
turned_back_by k (suc (suc (suc (suc n)))) p h e = absurd (too_many n h)

-- the pair of as many quarter turns back is mirrored
turned_back : (k : ℤ) (p : Pair) → turned (quadrant (neg_ℤ k)) (mirrored p) ≡ mirrored (turned (quadrant k) p)
turned_back k p = turned_back_by k (quadrant k) p (quadrant_lt k) refl

-- the opposite angle is reduced to the opposite one
reduced_back : (pi x : ℚ) (k : ℤ) → reduced pi (neg_ℚ x) (neg_ℤ k) ≡ neg_ℚ (reduced pi x k)
reduced_back pi x k = rw (of_int_neg k) (ring (pi ∷ x ∷ of_int k ∷ []) (search reads depth 90) tt)

-- a pair of an angle, mirrored, is one of the opposite angle
pub reflection_keeps_pairs : ReflectionKeepsPairs
reflection_keeps_pairs pi x s c h =
    record {
      quarters = neg_ℤ h.quarters;
      inner = mirrored h.inner;
      in_range = rw (reduced_back pi x h.quarters) (record {
        low = le_by (pi ∷ x ∷ of_int h.quarters ∷ []) (gap h.in_range.high) (search reads depth 90) tt;
        high = le_by (pi ∷ x ∷ of_int h.quarters ∷ []) (gap h.in_range.low) (search reads depth 90) tt;
      });
      sine_near = rw (reduced_back pi x h.quarters, sine_neg (reduced pi x h.quarters)) (near_neg h.sine_near);
      cosine_near = rw (reduced_back pi x h.quarters, cosine_neg (reduced pi x h.quarters)) h.cosine_near;
      sine_is = rw (turned_back h.quarters h.inner) (ap neg_ℚ h.sine_is);
      cosine_is = rw (turned_back h.quarters h.inner) h.cosine_is;
    }
