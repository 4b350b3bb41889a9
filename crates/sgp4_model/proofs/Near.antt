-- Laws of numbers that differ by at most e.
use Rattle.std.proofs.Common.{[], ◌∷◌}
use Rattle.exact.specs.Rational.{ℚ, ◌+ℚ◌, ◌*ℚ◌, neg_ℚ, zero_ℚ, ◌≤ℚ◌}
use Rattle.exact.proofs.RationalRing.{reads}
use Rattle.exact.proofs.Order.{◌⊕◌, ◌⊗◌, gap, known, le_by}
use Rattle.exact.proofs.Bounds.{abs_le, le_of_abs}
use Rattle.sgp4_model.specs.Angle.{IsNear}
use Rattle.sgp4_model.specs.PairLaws.{NearIsDistance}

-- the distance is not negative
pub near_positive : {e a b : ℚ} → IsNear e a b → zero_ℚ ≤ℚ e
near_positive {e} {a} {b} h = le_by (e ∷ a ∷ b ∷ []) (known 1 2 ⊗ (gap h.above ⊕ gap h.below)) (search reads depth 90) tt

-- a number differs from itself by nothing
pub near_refl : {e : ℚ} (a : ℚ) → zero_ℚ ≤ℚ e → IsNear e a a
near_refl {e} a h =
    record {
      above = le_by (e ∷ a ∷ []) (gap h) (search reads depth 90) tt;
      below = le_by (e ∷ a ∷ []) (gap h) (search reads depth 90) tt;
    }

-- both ways
pub near_sym : {e a b : ℚ} → IsNear e a b → IsNear e b a
near_sym h = record { above = h.below; below = h.above }

-- the distances add up
pub near_trans : {e f a b c : ℚ} → IsNear e a b → IsNear f b c → IsNear (e +ℚ f) a c
near_trans {e} {f} {a} {b} {c} h k =
    record {
      above = le_by (e ∷ f ∷ a ∷ b ∷ c ∷ []) (gap h.above ⊕ gap k.above) (search reads depth 90) tt;
      below = le_by (e ∷ f ∷ a ∷ b ∷ c ∷ []) (gap h.below ⊕ gap k.below) (search reads depth 90) tt;
    }

-- a larger distance serves
pub near_weaken : {e f a b : ℚ} → e ≤ℚ f → IsNear e a b → IsNear f a b
near_weaken {e} {f} {a} {b} l h =
    record {
      above = le_by (e ∷ f ∷ a ∷ b ∷ []) (gap h.above ⊕ gap l) (search reads depth 90) tt;
      below = le_by (e ∷ f ∷ a ∷ b ∷ []) (gap h.below ⊕ gap l) (search reads depth 90) tt;
    }

-- opposites differ by the same
pub near_neg : {e a b : ℚ} → IsNear e a b → IsNear e (neg_ℚ a) (neg_ℚ b)
near_neg {e} {a} {b} h =
    record {
      above = le_by (e ∷ a ∷ b ∷ []) (gap h.below) (search reads depth 90) tt;
      below = le_by (e ∷ a ∷ b ∷ []) (gap h.above) (search reads depth 90) tt;
    }

-- a common factor between -l and l
pub near_times : {e a b l : ℚ} (t : ℚ) → neg_ℚ l ≤ℚ t → t ≤ℚ l → IsNear e a b → IsNear (l *ℚ e) (t *ℚ a) (t *ℚ b)
near_times {e} {a} {b} {l} t low high h =
    record {
      above = le_by (e ∷ a ∷ b ∷ l ∷ t ∷ []) (known 1 2 ⊗ (gap low ⊗ gap h.above ⊕ gap high ⊗ gap h.below)) (search reads depth 90) tt;
      below = le_by (e ∷ a ∷ b ∷ l ∷ t ∷ []) (known 1 2 ⊗ (gap low ⊗ gap h.below ⊕ gap high ⊗ gap h.above)) (search reads depth 90) tt;
    }

-- that they differ by at most e is a bound of the absolute value of their difference
pub near_is_distance : NearIsDistance
near_is_distance e a b = (
  λ h. abs_le (le_by (e ∷ a ∷ b ∷ []) (gap h.below) (search reads depth 90) tt) (le_by (e ∷ a ∷ b ∷ []) (gap h.above) (search reads depth 90) tt),
  λ h.
      record {
        above = le_by (e ∷ a ∷ b ∷ []) (gap (le_of_abs h).1) (search reads depth 90) tt;
        below = le_by (e ∷ a ∷ b ∷ []) (gap (le_of_abs h).0) (search reads depth 90) tt;
      },
)
