-- Whole turns off a ratio, and off an angle.
use Rattle.std.proofs.Common.{◌≡◌, refl, arith, ℕ, zero, suc, negsuc, SFits, ◌+◌, ◌<◌, [], ◌∷◌, sym, subst, ap, ◌∙◌, ℤ, pos, neg_ℤ, ◌+ℤ◌, ◌*ℤ◌, ◌≤ℤ◌, ◌<ℤ◌, unsigned_abs, to_z, of_z}
use Rattle.exact.proofs.Order.{le_by, gap, known, ◌⊕◌, ◌⊗◌}
use Rattle.exact.proofs.Bounds.{abs_le}
use Rattle.fixed_iv.specs.Ends.{in_units}
use Rattle.fixed_iv.proofs.WidthLemmas.{high_over, low_under, tight_bounded, tight_width}
use Rattle.fixed_iv.specs.Holds.{Holds, IsTightest}
use Rattle.fixed_iv.specs.Results.{IsRatio}
use Rattle.fixed_iv.specs.declared.iv.Iv.{Iv}
use Rattle.earth_frame.specs.HalfTurns.{HoldsUpToTurns, IsWithinTurn}
use Rattle.exact.specs.Rational.{ℚ, ◌≤ℚ◌, zero_ℚ, ◌+ℚ◌, ◌-ℚ◌, ◌*ℚ◌, neg_ℚ, of_int, ratio}
use Rattle.exact.proofs.RationalRing.{ring, reads}
use Rattle.exact.proofs.Integers.{le_of_int, of_int_le, of_int_add, of_int_mul, of_int_neg, of_int_is, ratio_is_product}
use Rattle.fixed_iv.proofs.RatioLemmas.{euclid}
use Rattle.algebra.proofs.IntRing.{ring_ℤ, reads_ℤ}
use Rattle.std.specs.Int.{int_rem_euclid, int_div_euclid, w128, IsNonNegative}
use Rattle.std.proofs.lemmas.Int.{ints, to_z-of_z}
use Rattle.fixed_iv.proofs.QuotientLemmas.{unit_ratio}
use Rattle.sgp4_model.specs.Angle.{IsSinCos}
use Rattle.sgp4_model.proofs.Turns.{keep_pairs}

-- a pair of an angle is a pair of the angle less some whole turns
pub less_turns : (pi x s c : ℚ) (j : ℤ) → IsSinCos pi x s c → IsSinCos pi (x -ℚ of_int j *ℚ (ratio (pos 2) 1 *ℚ pi)) s c
less_turns pi x s c j h = subst (λ t. IsSinCos pi t s c) e (keep_pairs pi x s c (neg_ℤ j) h)
  where
    e : x +ℚ of_int (neg_ℤ j) *ℚ (ratio (pos 2) 1 *ℚ pi) ≡ x -ℚ of_int j *ℚ (ratio (pos 2) 1 *ℚ pi)
    e = ap (λ t. x +ℚ t *ℚ (ratio (pos 2) 1 *ℚ pi)) (of_int_neg j) ∙ ring (x ∷ pi ∷ of_int j ∷ []) (search reads depth 90) tt

whole_part : (d : ℕ) → of_int (pos (suc d)) *ℚ ratio (pos 1) (suc d) ≡ ratio (pos 1) 1
whole_part d = ring (of_int (pos (suc d)) ∷ ratio (pos 1) (suc d) ∷ []) (search reads depth 90) tt ∙ unit_ratio d

-- what is left of a number of turns in parts, where whole turns of two parts each, times the divisor, were taken off
pub parts_left : (n r q : ℤ) (d : ℕ) → n ≡ r +ℤ q *ℤ (pos 2 *ℤ pos (suc d)) → ratio r (suc d) ≡ ratio n (suc d) -ℚ of_int q *ℚ ratio (pos 2) 1
parts_left n r q d e =
    ratio_is_product r (suc d)
    ∙ ring (of_int r ∷ of_int q ∷ of_int (pos (suc d)) ∷ ratio (pos 1) (suc d) ∷ [])
    {y = (of_int r +ℚ of_int q *ℚ (ratio (pos 2) 1 *ℚ of_int (pos (suc d)))) *ℚ ratio (pos 1) (suc d) -ℚ of_int q *ℚ ratio (pos 2) 1 *ℚ (of_int (pos (suc d)) *ℚ ratio (pos 1) (suc d))} (search reads depth 90) tt
    ∙ ap (λ t. (of_int r +ℚ of_int q *ℚ (ratio (pos 2) 1 *ℚ of_int (pos (suc d)))) *ℚ ratio (pos 1) (suc d) -ℚ of_int q *ℚ ratio (pos 2) 1 *ℚ t) (whole_part d)
    ∙ ring (of_int r ∷ of_int q ∷ of_int (pos (suc d)) ∷ ratio (pos 1) (suc d) ∷ [])
    {y = (of_int r +ℚ of_int q *ℚ (ratio (pos 2) 1 *ℚ of_int (pos (suc d)))) *ℚ ratio (pos 1) (suc d) -ℚ of_int q *ℚ ratio (pos 2) 1} (search reads depth 90) tt
    ∙ ap (λ t. t *ℚ ratio (pos 1) (suc d) -ℚ of_int q *ℚ ratio (pos 2) 1) (sym whole)
    ∙ ap (λ t. t -ℚ of_int q *ℚ ratio (pos 2) 1) (sym (ratio_is_product n (suc d)))
  where
    whole : of_int n ≡ of_int r +ℚ of_int q *ℚ (ratio (pos 2) 1 *ℚ of_int (pos (suc d)))
    whole =
        ap of_int e ∙ of_int_add r (q *ℤ (pos 2 *ℤ pos (suc d)))
        ∙ ap (λ t. of_int r +ℚ t) (of_int_mul q (pos 2 *ℤ pos (suc d)) ∙ ap (λ t. of_int q *ℚ t) (of_int_mul (pos 2) (pos (suc d)) ∙ ap (λ t. t *ℚ of_int (pos (suc d))) (of_int_is (pos 2))))

-- ---- the remainder by two divisors
two_is : (d : ℕ) → pos 2 *ℤ pos (suc d) ≡ pos (suc (suc (d + d)))
two_is d = ap pos (omega arith)

turns_off : (n r : ℤ) (d : ℕ) → r ≡ int_rem_euclid n (pos 2 *ℤ pos (suc d)) → n ≡ r +ℤ int_div_euclid n (pos 2 *ℤ pos (suc d)) *ℤ (pos 2 *ℤ pos (suc d))
turns_off n r d e = rw (e, two_is d) (euclid n (suc (d + d)) ∙ ring_ℤ (int_div_euclid n (pos (suc (suc (d + d)))) ∷ pos (suc (suc (d + d))) ∷ int_rem_euclid n (pos (suc (suc (d + d)))) ∷ []) (search reads_ℤ depth 90) tt)

-- ---- the code's words
-- the parts, what is left of them and the divisor, as the code has them
pub record IsTakenOff (num den r : ℤ) : Type 0 where
  pub divisor : to_z w128 (of_z w128 den) ≡ den
  pub kept : to_z w128 (of_z w128 r) ≡ r
  pub low : pos 0 ≤ℤ r
  pub high : r <ℤ (pos 2 *ℤ den)
  pub is : r ≡ int_rem_euclid num (pos 2 *ℤ den)

between : (r d : ℤ) → IsNonNegative r → pos 0 <ℤ d → unsigned_abs r < unsigned_abs d → (pos 0 ≤ℤ r) × (r <ℤ d)
between (pos r) (pos d) n p s = (omega (arith, ints), omega (arith, ints, s))
between (negsuc r) d n p s = absurd n
between (pos r) (negsuc d) n p s = absurd (omega (arith, ints, p))

double : (d : ℤ) → pos 0 <ℤ d → pos 0 <ℤ (pos 2 *ℤ d)
double d p = omega (arith, ints, p)

pub taken_off : (num den r : ℤ) → pos 0 <ℤ den → den ≤ℤ pos 1329227995784915872903807060280344576 → SFits w128 num → IsNonNegative r →
    unsigned_abs r < unsigned_abs (to_z w128 (of_z w128 (pos 2 *ℤ to_z w128 (of_z w128 den)))) →
    r ≡ int_rem_euclid (to_z w128 (of_z w128 num)) (to_z w128 (of_z w128 (pos 2 *ℤ to_z w128 (of_z w128 den)))) → IsTakenOff num den r
taken_off num den r p room f n s e =
    let d : to_z w128 (of_z w128 den) ≡ den = omega (arith, ints, p, room) in
    let t : to_z w128 (of_z w128 (pos 2 *ℤ den)) ≡ pos 2 *ℤ den = omega (arith, ints, p, room) in
    let q = between r (pos 2 *ℤ den) n (double den p) (rw (d, t) at s) in
    record {
      divisor = d;
      kept = omega (arith, ints, p, room, q.0, q.1);
      low = q.0;
      high = q.1;
      is = rw (d, t, to_z-of_z w128 num f) at e;
    }

pub holds_less_turns : (num den r : ℤ) (v : Iv) → pos 0 <ℤ den → r ≡ int_rem_euclid num (pos 2 *ℤ den) → IsTightest (IsRatio r den) v → HoldsUpToTurns v (ratio num (unsigned_abs den))
holds_less_turns num (pos (suc d)) r v p e t = record {
  turns = int_div_euclid num (pos 2 *ℤ pos (suc d));
  holds = subst (Holds v) (parts_left num r _ d (turns_off num r d e)) (t.holds (ratio r (suc d)) refl);
}
holds_less_turns num (pos zero) r v p e t = absurd (omega (arith, ints, p))
holds_less_turns num (negsuc d) r v p e t = absurd (omega (arith, ints, p))

-- what is left lies from 0 to 2
pub within_turn : (den r : ℤ) (v : Iv) → pos 0 <ℤ den → pos 0 ≤ℤ r → r <ℤ (pos 2 *ℤ den) → IsTightest (IsRatio r den) v → IsWithinTurn v
within_turn (pos (suc d)) r v p l h t =
    let b = tight_bounded t (λ y e. rw e (abs_le small_low small_high)) in
    record {
      low = low_under (pos 0) t b refl (λ y e. rw (e, of_int_is (pos 0)) units_low);
      high = high_over (pos 562949953421312) t b refl (λ y e. rw (e, of_int_is (pos 562949953421312)) units_high);
      narrow = le_of_int (rw (of_int_add, of_int_is (pos 2)) (le_by (of_int v.lo ∷ of_int v.hi ∷ []) (gap (tight_width zero_ℚ t b refl same)) (search reads depth 90) tt));
    }
  where
    over : ℚ
    over = ratio (pos 1) (suc d)

    number : ratio r (suc d) ≡ of_int r *ℚ over
    number = ratio_is_product r (suc d)

    from_0 : zero_ℚ ≤ℚ of_int r
    from_0 = rw (sym (of_int_is (pos 0))) (of_int_le l)

    low : zero_ℚ ≤ℚ ratio r (suc d)
    low = rw number (le_by (of_int r ∷ over ∷ []) (gap from_0 ⊗ known 1 (suc d)) (search reads depth 90) tt)

    double : of_int r ≤ℚ ratio (pos 2) 1 *ℚ of_int (pos (suc d))
    double = rw (sym (of_int_is (pos 2)), sym (of_int_mul (pos 2) (pos (suc d)))) (of_int_le (omega (arith, ints, h)))

    high : ratio r (suc d) ≤ℚ ratio (pos 2) 1 *ℚ ratio (pos 1) 1
    high =
        rw number
        (subst (λ t. of_int r *ℚ over ≤ℚ ratio (pos 2) 1 *ℚ t) (whole_part d)
        (le_by (of_int r ∷ of_int (pos (suc d)) ∷ over ∷ []) (gap double ⊗ known 1 (suc d)) (search reads depth 90) tt))

    small_low : neg_ℚ (ratio (pos 32000) 1) ≤ℚ ratio r (suc d)
    small_low = le_by (ratio r (suc d) ∷ []) (gap low ⊕ known 32000 1) (search reads depth 90) tt

    small_high : ratio r (suc d) ≤ℚ ratio (pos 32000) 1
    small_high = le_by (ratio r (suc d) ∷ []) (gap high ⊕ known 31998 1) (search reads depth 90) tt

    units_low : ratio (pos 0) 1 ≤ℚ in_units (ratio r (suc d))
    units_low = le_by (ratio r (suc d) ∷ []) (known 281474976710656 1 ⊗ gap low) (search reads depth 90) tt

    units_high : in_units (ratio r (suc d)) ≤ℚ ratio (pos 562949953421312) 1
    units_high = le_by (ratio r (suc d) ∷ []) (known 281474976710656 1 ⊗ gap high) (search reads depth 90) tt

    same : (y z : ℚ) → y ≡ ratio r (suc d) → z ≡ ratio r (suc d) → in_units y ≤ℚ in_units z +ℚ zero_ℚ
    same y z e f = rw (e, f) (le_by (ratio r (suc d) ∷ []) (known 0 1) (search reads depth 90) tt)
within_turn (pos zero) r v p l h t = absurd (omega (arith, ints, p))
within_turn (negsuc d) r v p l h t = absurd (omega (arith, ints, p))
