-- When Kepler's equation is not solved: bounds that do not show that it has but one root.
use Rattle.std.specs.Prelude.{◌≡◌, ℕ, ◌+◌, ◌^◌, ◌<◌, ◌≤◌, ◌⊎◌}
use Rattle.fixed_iv.specs.Extent.{size}
use Rattle.fixed_iv.specs.Holds.{IsBounded}
use Rattle.fixed_iv.specs.declared.iv.Iv.{Iv}

-- an end of the bounds of ax or of ay is unbounded, or the largest sizes of an end of each, in units of 2^-48, add up to
-- at least 1
abbrev pub IsUnguarded : Iv → Iv → Type 0
IsUnguarded ax ay = (¬ IsBounded ax ⊎ ¬ IsBounded ay) ⊎ (2 ^ 48 ≤ size ax + size ay)

-- both bounds are bounded, and the largest sizes of an end of each add up to this many units, less than 1
pub record IsGuardedSum (ax ay : Iv) (sum : ℕ) : Type 0 where
  pub of_ax : IsBounded ax
  pub of_ay : IsBounded ay
  pub is : sum ≡ size ax + size ay
  pub below : sum < 2 ^ 48
