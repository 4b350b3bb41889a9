-- Quarter turns of a pair that the code has.
use Rattle.std.proofs.Common.{◌≡◌, arith, ap, ◌∙◌, ℕ, zero, suc, ◌≤◌, ◌<◌, [], ◌∷◌, ℤ, pos, neg_ℤ, ◌-ℤ◌, to_z, of_z, w64}
use Rattle.std.proofs.lemmas.Int.{ints}
use Rattle.std.specs.Int.{int_rem_euclid}
use lib.IntN.{nat_abs}
use Rattle.exact.specs.Rational.{ℚ, of_int, ratio, neg_ℚ}
use Rattle.exact.proofs.RationalRing.{reads}
use Rattle.exact.proofs.Order.{gap, le_by}
use Rattle.exact.proofs.Integers.{of_int_neg}
use Rattle.sgp4_model.specs.Angle.{IsNear, Pair, quadrant, turned}
use Rattle.sgp4_model.proofs.InCode.{rem_euclid_is_quadrant}
use Rattle.trig_enc.specs.Coded.{IsCodedPair, IsCodedSize, coded}
use Rattle.trig_enc.proofs.WholeLemmas.{kept_narrow}

opposite_near : (a : ℤ) (x : ℚ) → IsNear (ratio (pos 4) 1) (of_int a) (coded x) → IsNear (ratio (pos 4) 1) (of_int (neg_ℤ a)) (coded (neg_ℚ x))
opposite_near a x h =
    rw (of_int_neg a)
    (record {
      above = le_by (of_int a ∷ x ∷ []) (gap h.below) (search reads depth 90) tt;
      below = le_by (of_int a ∷ x ∷ []) (gap h.above) (search reads depth 90) tt;
    })

pub turned_once : {s c : ℤ} {p : Pair} → IsCodedPair s c p → IsCodedPair c (neg_ℤ s) (turned 1 p)
unfolding turned
turned_once {s} {c} {p} h = record { sine_near = h.cosine_near; cosine_near = opposite_near s p.sine h.sine_near }

pub turned_twice : {s c : ℤ} {p : Pair} → IsCodedPair s c p → IsCodedPair (neg_ℤ s) (neg_ℤ c) (turned 2 p)
unfolding turned
turned_twice {s} {c} {p} h = record { sine_near = opposite_near s p.sine h.sine_near; cosine_near = opposite_near c p.cosine h.cosine_near }

too_few : (n : ℕ) → n < 3 → 3 ≤ n → ⊥
too_few n l h = omega (arith, h, l)

pub turned_thrice : {s c : ℤ} {p : Pair} (n : ℕ) → 3 ≤ n → IsCodedPair s c p → IsCodedPair (neg_ℤ c) s (turned n p)
unfolding turned
turned_thrice zero l h = absurd (too_few 0 (omega arith) l)
turned_thrice (suc zero) l h = absurd (too_few 1 (omega arith) l)
turned_thrice (suc (suc zero)) l h = absurd (too_few 2 (omega arith) l)
turned_thrice {s} {c} {p} (suc (suc (suc n))) l h = record { sine_near = opposite_near c p.cosine h.cosine_near; cosine_near = h.sine_near }

pub turned_never : {s c : ℤ} {p : Pair} → IsCodedPair s c p → IsCodedPair s c (turned 0 p)
unfolding turned
turned_never h = h

opposite_size : (s : ℤ) → IsCodedSize s → IsCodedSize (neg_ℤ s)
opposite_size s h = record { least = omega (arith, ints, h.most); most = omega (arith, ints, h.least) }

pub kept_opposite : (s : ℤ) → IsCodedSize s → to_z w64 (of_z w64 (pos 0 -ℤ to_z w64 (of_z w64 s))) ≡ neg_ℤ s
kept_opposite s h = rw (kept_narrow s h, from_zero) (kept_narrow (neg_ℤ s) (opposite_size s h))
  where
    from_zero : pos 0 -ℤ s ≡ neg_ℤ s
    from_zero = omega (arith, ints)

pub quadrant_is : (k r : ℤ) (n : ℕ) → r ≡ int_rem_euclid k (pos 4) → n ≡ nat_abs r → n ≡ quadrant k
quadrant_is k r n e f = f ∙ ap nat_abs (e ∙ rem_euclid_is_quadrant k)
