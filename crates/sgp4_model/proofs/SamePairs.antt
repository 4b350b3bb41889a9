-- Pairs of sums at two near angles, by two near pis and any allowed quarter turns, are near.
use Rattle.std.proofs.Common.{◌≡◌, arith, ℕ, zero, suc, [], ◌∷◌, ⊎_elim, ap, subst, sym}
use Rattle.std.proofs.lemmas.Int.{ints}
use lib.IntN.{ℤ, pos, ◌+ℤ◌}
use Rattle.exact.specs.Rational.{ℚ, ◌+ℚ◌, ◌*ℚ◌, ratio, of_int, ◌≤ℚ◌}
use Rattle.exact.proofs.RationalRing.{reads}
use Rattle.exact.proofs.Order.{◌⊕◌, ◌⊗◌, gap, known, le_by}
use Rattle.exact.proofs.Integers.{of_int_add, of_int_le, of_int_is}
use Rattle.sgp4_model.specs.Angle.{IsPi, IsNear, IsReduced, Pair, quadrant, turned, reduced, part}
use Rattle.sgp4_model.proofs.Near.{near_sym, near_positive}
use Rattle.sgp4_model.proofs.PairLaws.{IsNearPair, pair_sym, turned_near, turned_next, turned_twice, ordered}
use Rattle.sgp4_model.proofs.AngleSpan.{sums, IsSpan}
use Rattle.sgp4_model.proofs.NearQuarters.{same_quarter, next_quarter}
use Rattle.sgp4_model.proofs.FarQuarters.{opposite_quarter, further_quarters}

-- the pair of sums at x, less k quarter turns, turned back
abbrev pub pair_of_sums : ℚ → ℚ → ℤ → Pair
pair_of_sums pi x k = turned (quadrant k) (sums (reduced pi x k))

-- an allowed number of quarter turns at x; the pis differ by at most e, and so do k times each
pub record IsPlace (e pi pj x : ℚ) (k : ℤ) : Type 0 where
  pub is_pi : IsPi pi
  pub in_range : IsReduced pi (reduced pi x k)
  pub turns : IsNear e (of_int k *ℚ pi) (of_int k *ℚ pj)

-- two places, the second n quarter turns on
span_of : (e d pi pj x z : ℚ) (k : ℤ) (n : ℕ) → IsNear e pi pj → IsNear d x z → IsPlace e pi pj x k → IsPlace e pj pi z (k +ℤ pos n) →
    IsSpan pi pj (of_int (pos n)) d e (reduced pi x k) (reduced pj z (k +ℤ pos n))
span_of e d pi pj x z k n p h s t =
    record {
      first_pi = s.is_pi;
      second_pi = t.is_pi;
      pis = p;
      first = s.in_range;
      second = t.in_range;
      apart = rw (of_int_add k (pos n)) (record {
        above = le_by (e ∷ d ∷ pi ∷ pj ∷ x ∷ z ∷ of_int k ∷ of_int (pos n) ∷ []) (gap h.above ⊕ known 1 2 ⊗ gap s.turns.below) (search reads depth 90) tt;
        below = le_by (e ∷ d ∷ pi ∷ pj ∷ x ∷ z ∷ of_int k ∷ of_int (pos n) ∷ []) (gap h.below ⊕ known 1 2 ⊗ gap s.turns.above) (search reads depth 90) tt;
      });
      size = near_positive h;
    }

-- no quarter turn more is the same number of them
no_more : (k : ℤ) → k +ℤ pos 0 ≡ k
no_more k = omega (arith, ints)

-- three and more are at least 3
at_least_3 : (n : ℕ) → ratio (pos 3) 1 ≤ℚ of_int (pos (suc (suc (suc n))))
at_least_3 n = rw (of_int_is (pos 3)) at (of_int_le {a = pos 3} {b = pos (suc (suc (suc n)))} (omega (arith, ints)))

-- the second place is n quarter turns on
on : (e d pi pj x z : ℚ) (k : ℤ) (n : ℕ) → IsNear e pi pj → IsNear d x z → IsPlace e pi pj x k → IsPlace e pj pi z (k +ℤ pos n) →
    IsNearPair (d +ℚ e +ℚ part 66) (pair_of_sums pi x k) (pair_of_sums pj z (k +ℤ pos n))
on e d pi pj x z k zero p h s t =
    rw (ap quadrant (no_more k)) (turned_near (quadrant k) (same_quarter (rw (of_int_is (pos 0)) at (span_of e d pi pj x z k 0 p h s t))))
on e d pi pj x z k (suc zero) p h s t =
    rw (turned_next k (sums (reduced pj z (k +ℤ pos 1))))
    (turned_near (quadrant k) (next_quarter (rw (of_int_is (pos 1)) at (span_of e d pi pj x z k 1 p h s t))))
on e d pi pj x z k (suc (suc zero)) p h s t =
    rw (turned_twice k (sums (reduced pj z (k +ℤ pos 2))))
    (turned_near (quadrant k) (opposite_quarter (rw (of_int_is (pos 2)) at (span_of e d pi pj x z k 2 p h s t))))
on e d pi pj x z k (suc (suc (suc n))) p h s t =
    further_quarters (quadrant k) (quadrant (k +ℤ pos (suc (suc (suc n))))) (at_least_3 n) (span_of e d pi pj x z k (suc (suc (suc n))) p h s t)

-- the same, where the second number of quarter turns is another expression
on_to : (e d pi pj x z : ℚ) (j k : ℤ) → (n : ℕ) × (k ≡ j +ℤ pos n) → IsNear e pi pj → IsNear d x z → IsPlace e pi pj x j → IsPlace e pj pi z k →
    IsNearPair (d +ℚ e +ℚ part 66) (pair_of_sums pi x j) (pair_of_sums pj z k)
on_to e d pi pj x z j k m p h s t =
    subst (λ q. IsPlace e pj pi z q → IsNearPair (d +ℚ e +ℚ part 66) (pair_of_sums pi x j) (pair_of_sums pj z q)) (sym m.1)
    (on e d pi pj x z j m.0 p h s) t

-- The pairs differ by what the angles do, what the pis do, and 2^-66 for a tie.
pub same_pairs : (e d pi pj x z : ℚ) (j k : ℤ) → IsNear e pi pj → IsNear d x z → IsPlace e pi pj x j → IsPlace e pj pi z k →
    IsNearPair (d +ℚ e +ℚ part 66) (pair_of_sums pi x j) (pair_of_sums pj z k)
same_pairs e d pi pj x z j k p h s t =
    ⊎_elim
    (λ m. on_to e d pi pj x z j k m p h s t)
    (λ m. pair_sym (on_to e d pj pi z x k j m (near_sym p) (near_sym h) t s))
    (ordered j k)
