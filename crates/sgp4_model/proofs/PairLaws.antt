-- Pairs of a sine and a cosine: nearness, and quarter turns of them.
use Rattle.std.proofs.Common.{◌≡◌, arith, ℕ, zero, suc, ◌<◌, ◌⊎◌, inl, inr, [], ◌∷◌, pos, refl}
use Rattle.std.proofs.lemmas.Int.{ints}
use lib.IntN.{ℤ, negsuc, ◌+ℤ◌, ◌-ℤ◌}
use Rattle.exact.specs.Rational.{ℚ, ◌+ℚ◌, neg_ℚ, zero_ℚ, ◌≤ℚ◌}
use Rattle.exact.proofs.RationalRing.{ring, reads}
use Rattle.sgp4_model.specs.Angle.{IsNear, Pair, quadrant, turned}
use Rattle.sgp4_model.proofs.Near.{near_trans, near_sym, near_weaken, near_neg}
use Rattle.sgp4_model.proofs.Turns.{quadrant_is, quadrant_lt, quadrant_by}

-- both numbers differ by at most e
pub record IsNearPair (e : ℚ) (p q : Pair) : Type 0 where
  pub sine : IsNear e p.sine q.sine
  pub cosine : IsNear e p.cosine q.cosine

-- the distances add up
pub pair_trans : {e f : ℚ} {p q r : Pair} → IsNearPair e p q → IsNearPair f q r → IsNearPair (e +ℚ f) p r
pair_trans h k = record { sine = near_trans h.sine k.sine; cosine = near_trans h.cosine k.cosine }

-- both ways
pub pair_sym : {e : ℚ} {p q : Pair} → IsNearPair e p q → IsNearPair e q p
pair_sym h = record { sine = near_sym h.sine; cosine = near_sym h.cosine }

-- a larger distance serves
pub pair_weaken : {e f : ℚ} {p q : Pair} → e ≤ℚ f → IsNearPair e p q → IsNearPair f p q
pair_weaken l h = record { sine = near_weaken l h.sine; cosine = near_weaken l h.cosine }

-- near pairs are near after quarter turns
pub turned_near : {e : ℚ} {p q : Pair} (n : ℕ) → IsNearPair e p q → IsNearPair e (turned n p) (turned n q)
unfolding turned
turned_near zero h = h
turned_near (suc zero) h = record { sine = h.cosine; cosine = near_neg h.sine }
turned_near (suc (suc zero)) h = record { sine = near_neg h.sine; cosine = near_neg h.cosine }
turned_near (suc (suc (suc n))) h = record { sine = near_neg h.cosine; cosine = h.sine }

-- two zeros
abbrev pub no_pair : Pair
no_pair = record { sine = zero_ℚ; cosine = zero_ℚ }

-- the opposite of 0
neg_zero : neg_ℚ zero_ℚ ≡ zero_ℚ
neg_zero = ring [] (search reads depth 20) tt

-- the opposite of the opposite
pub neg_neg : (x : ℚ) → neg_ℚ (neg_ℚ x) ≡ x
neg_neg x = ring (x ∷ []) (search reads depth 20) tt

-- quarter turns of two zeros
pub turned_none : (n : ℕ) → turned n no_pair ≡ no_pair
unfolding turned
turned_none zero = refl
turned_none (suc zero) = rw neg_zero refl
turned_none (suc (suc zero)) = rw neg_zero refl
turned_none (suc (suc (suc n))) = rw neg_zero refl

-- 4 and more are not below 4
pub too_many : (n : ℕ) → suc (suc (suc (suc n))) < 4 → ⊥
too_many n h = omega (arith, h)

-- one quarter turn more, taken first
turned_first : (k : ℤ) (n : ℕ) (p : Pair) → n < 4 → quadrant k ≡ n → turned (quadrant (k +ℤ pos 1)) p ≡ turned n (turned 1 p)
unfolding turned
turned_first k zero p h e = rw (quadrant_by (k +ℤ pos 1) (quadrant_is k).0 1 (omega arith) (omega (arith, ints, e, (quadrant_is k).1))) refl
turned_first k (suc zero) p h e = rw (quadrant_by (k +ℤ pos 1) (quadrant_is k).0 2 (omega arith) (omega (arith, ints, e, (quadrant_is k).1))) refl
turned_first k (suc (suc zero)) p h e = rw (quadrant_by (k +ℤ pos 1) (quadrant_is k).0 3 (omega arith) (omega (arith, ints, e, (quadrant_is k).1)), neg_neg p.sine) refl
turned_first k (suc (suc (suc zero))) p h e = rw (quadrant_by (k +ℤ pos 1) ((quadrant_is k).0 +ℤ pos 1) 0 (omega arith) (omega (arith, ints, e, (quadrant_is k).1)), neg_neg p.sine) refl
turned_first k (suc (suc (suc (suc n)))) p h e = absurd (too_many n h)

-- one quarter turn more is a turn of the turned pair
pub turned_next : (k : ℤ) (p : Pair) → turned (quadrant (k +ℤ pos 1)) p ≡ turned (quadrant k) (turned 1 p)
turned_next k p = turned_first k (quadrant k) p (quadrant_lt k) refl

-- two quarter turns more
pub turned_twice : (k : ℤ) (p : Pair) → turned (quadrant (k +ℤ pos 2)) p ≡ turned (quadrant k) (turned 1 (turned 1 p))
turned_twice k p = rw (two_ones k, turned_next (k +ℤ pos 1) p, turned_next k (turned 1 p)) refl
  where
    two_ones : (k : ℤ) → k +ℤ pos 2 ≡ (k +ℤ pos 1) +ℤ pos 1
    two_ones k = omega (arith, ints)

-- of two whole numbers one is the other and a natural number
pub ordered : (j k : ℤ) → ((n : ℕ) × (k ≡ j +ℤ pos n)) ⊎ ((n : ℕ) × (j ≡ k +ℤ pos n))
ordered j k = by_difference (k -ℤ j) refl
  where
    by_difference : (d : ℤ) → d ≡ k -ℤ j → ((n : ℕ) × (k ≡ j +ℤ pos n)) ⊎ ((n : ℕ) × (j ≡ k +ℤ pos n))
    by_difference (pos n) e = inl (n, omega (arith, ints, e))
    by_difference (negsuc n) e = inr (suc n, omega (arith, ints, e))
