-- A function of whole numbers that starts at or below a level and ends at or above it passes the level at one step.
use Rattle.std.proofs.Common.{arith, ℕ, zero, suc, ◌≤◌, ⊎_elim}
use Rattle.exact.specs.Rational.{ℚ, ◌≤ℚ◌}
use Rattle.exact.proofs.Bounds.{le_total}

-- the step from `from` to the next number passes the level, and is not past the step from `last`
pub record IsCrossing (f : ℕ → ℚ) (level : ℚ) (last from : ℕ) : Type 0 where
  pub below : f from ≤ℚ level
  pub above : level ≤ℚ f (suc from)
  pub within : from ≤ last

pub crossing : (f : ℕ → ℚ) (level : ℚ) (last : ℕ) → f 0 ≤ℚ level → level ≤ℚ f (suc last) → (from : ℕ) × IsCrossing f level last from
crossing f level zero h k = (0, record { below = h; above = k; within = omega arith })
crossing f level (suc n) h k = ⊎_elim here (λ l. earlier (crossing f level n h l)) (le_total (f (suc n)) level)
  where
    here : f (suc n) ≤ℚ level → (from : ℕ) × IsCrossing f level (suc n) from
    here l = (suc n, record { below = l; above = k; within = omega arith })

    earlier : ((from : ℕ) × IsCrossing f level n from) → (from : ℕ) × IsCrossing f level (suc n) from
    earlier r = (r.0, record { below = r.1.below; above = r.1.above; within = omega (arith, r.1.within) })
