-- A place inside a cell, and the line between two values over the cell.
use Rattle.exact.specs.Rational.{ℚ, ratio, ◌+ℚ◌, ◌-ℚ◌, ◌*ℚ◌, neg_ℚ, one_ℚ, ◌≤ℚ◌}
use Rattle.std.specs.Prelude.{pos}

-- from -1, the start of the cell, to 1, its end
pub record Place : Type 0 where
  pub at : ℚ
  pub low : neg_ℚ one_ℚ ≤ℚ at
  pub high : at ≤ℚ one_ℚ

-- the value at the place of the line from x at the start to y at the end
abbrev pub on_line : Place → ℚ → ℚ → ℚ
on_line h x y = ratio (pos 1) 2 *ℚ ((one_ℚ -ℚ h.at) *ℚ x +ℚ (one_ℚ +ℚ h.at) *ℚ y)
