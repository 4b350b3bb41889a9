-- Bounds and nearness of the rests of both sums, at angles of at most 0.7854.
use Rattle.std.proofs.Common.{arith, ℕ, zero, suc, List, [], ◌∷◌, pos, ◌≤◌}
use Rattle.std.proofs.lemmas.Int.{ints}
use Rattle.exact.specs.Rational.{ℚ, ◌+ℚ◌, ◌*ℚ◌, neg_ℚ, at_least_0, ratio, one_ℚ, ◌≤ℚ◌}
use Rattle.exact.proofs.RationalRing.{reads}
use Rattle.exact.proofs.Order.{◌⊕◌, ◌⊗◌, gap, known, le_by, le_refl, le_of_not_negative, not_negative}
use Rattle.exact.proofs.Bounds.{square}
use Rattle.sgp4_model.specs.Angle.{IsNear}
use Rattle.sgp4_model.proofs.Near.{near_positive, near_refl}
use Rattle.sgp4_model.proofs.Horner.{horner, cosine_divisors, sine_divisors, cosine_rest, sine_rest}
use Rattle.sgp4_model.proofs.GoodStep.{IsSmall, IsHigh, IsTwelfth, step_high, step_near}

-- an angle of at most 0.7854, which is more than an eighth of a turn
pub record IsAngle (y : ℚ) : Type 0 where
  pub low : neg_ℚ (ratio (pos 3927) 5000) ≤ℚ y
  pub high : y ≤ℚ ratio (pos 3927) 5000

-- its square is at most 617/1000
pub small_square : {y : ℚ} → IsAngle y → IsSmall (y *ℚ y)
small_square {y} h =
    record {
      low = le_of_not_negative (square y);
      high = le_by (y ∷ []) (gap h.low ⊗ gap h.high ⊕ known 3671 25000000) (search reads depth 90) tt;
    }

-- each divisor is at least 12
abbrev AtLeast12 : List ℕ → Type 0
AtLeast12 [] = Unit {0}
AtLeast12 (c ∷ cs) = (12 ≤ c) × AtLeast12 cs

-- its inverse is at most 1/12
twelfth : (c : ℕ) → 12 ≤ c → IsTwelfth (ratio (pos 1) c)
unfolding ratio at_least_0 ◌+ℚ◌ neg_ℚ
twelfth zero h = omega (arith, h)
twelfth (suc c) h = record { low = record { le = omega (arith, ints) }; high = record { le = omega (arith, ints, h) } }

-- all steps keep the value high
horner_high : (u : ℚ) (cs : List ℕ) → IsSmall u → AtLeast12 cs → IsHigh (horner u cs)
horner_high u [] s h = record { low = le_by [] (known 1 10) (search reads depth 90) tt; high = le_refl one_ℚ }
horner_high u (c ∷ cs) s h = step_high _ u _ (twelfth c h.0) s (horner_high u cs s h.1)

-- all steps keep near values near
horner_near : (t e u v : ℚ) (cs : List ℕ) → IsSmall u → IsSmall v → AtLeast12 cs → IsNear e (t *ℚ u) (t *ℚ v) →
    IsNear (ratio (pos 1) 10 *ℚ e) (t *ℚ horner u cs) (t *ℚ horner v cs)
horner_near t e u v [] s r h n = near_refl _ (le_of_not_negative (known 1 10 ⊗ not_negative (near_positive n)))
horner_near t e u v (c ∷ cs) s r h n =
    step_near t e _ u v _ _ (twelfth c h.0) s r (horner_high u cs s h.1) (horner_high v cs r h.1) n (horner_near t e u v cs s r h.1 n)

-- the divisors of the cosine are at least 12
cosine_at_least_12 : AtLeast12 cosine_divisors
cosine_at_least_12 = (omega arith, (omega arith, (omega arith, (omega arith, (omega arith, (omega arith, (omega arith, (omega arith, tt))))))))

-- so are those of the sine
sine_at_least_12 : AtLeast12 sine_divisors
sine_at_least_12 = (omega arith, (omega arith, (omega arith, (omega arith, (omega arith, (omega arith, (omega arith, (omega arith, tt))))))))

-- both rests lie from 9/10 to 1
pub cosine_rest_high : {y : ℚ} → IsAngle y → IsHigh (cosine_rest y)
unfolding cosine_rest
cosine_rest_high {y} h = horner_high (y *ℚ y) cosine_divisors (small_square h) cosine_at_least_12

-- the same of the sine
pub sine_rest_high : {y : ℚ} → IsAngle y → IsHigh (sine_rest y)
unfolding sine_rest
sine_rest_high {y} h = horner_high (y *ℚ y) sine_divisors (small_square h) sine_at_least_12

-- both rests differ by at most a tenth of what the squares do, all scaled by t
pub cosine_rest_near : (t e y z : ℚ) → IsAngle y → IsAngle z → IsNear e (t *ℚ (y *ℚ y)) (t *ℚ (z *ℚ z)) →
    IsNear (ratio (pos 1) 10 *ℚ e) (t *ℚ cosine_rest y) (t *ℚ cosine_rest z)
unfolding cosine_rest
cosine_rest_near t e y z h k n = horner_near t e (y *ℚ y) (z *ℚ z) cosine_divisors (small_square h) (small_square k) cosine_at_least_12 n

-- the same of the sine
pub sine_rest_near : (t e y z : ℚ) → IsAngle y → IsAngle z → IsNear e (t *ℚ (y *ℚ y)) (t *ℚ (z *ℚ z)) →
    IsNear (ratio (pos 1) 10 *ℚ e) (t *ℚ sine_rest y) (t *ℚ sine_rest z)
unfolding sine_rest
sine_rest_near t e y z h k n = horner_near t e (y *ℚ y) (z *ℚ z) sine_divisors (small_square h) (small_square k) sine_at_least_12 n
