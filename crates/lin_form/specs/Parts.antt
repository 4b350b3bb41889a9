-- The first of some equal parts of a cell, and lines over them.
use Rattle.std.specs.Prelude.{ℕ, ℤ, pos, ◌*◌, ◌<◌, ◌<ℤ◌, ◌+ℤ◌, ◌-ℤ◌, ◌*ℤ◌}
use Rattle.exact.specs.Rational.{of_int, one_ℚ, ◌+ℚ◌, ◌*ℚ◌, ◌≤ℚ◌}
use Rattle.fixed_iv.specs.Place.{Place}

-- the place lies in the first `count` of so many equal parts of the cell, of which there is one at least
pub record IsAmongFirst (h : Place) (count parts : ℕ) : Type 0 where
  pub some : 0 < count
  pub within : of_int (pos parts) *ℚ (one_ℚ +ℚ h.at) ≤ℚ of_int (pos (2 * count))

-- the line with this middle and slope is above 0 at the end of the first `count` parts: at 2 count / parts - 1
abbrev pub IsAboveAfter : ℤ → ℤ → ℕ → ℕ → Type 0
IsAboveAfter middle slope count parts = pos 0 <ℤ (pos parts *ℤ middle +ℤ (pos (2 * count) -ℤ pos parts) *ℤ slope)
