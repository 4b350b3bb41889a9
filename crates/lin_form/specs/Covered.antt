-- What a slope enclosure covers.
use Rattle.std.specs.Prelude.{◌≡◌}
use Rattle.exact.specs.Rational.{ℚ, ◌+ℚ◌, ◌*ℚ◌}
use Rattle.fixed_iv.specs.Holds.{Holds}
use Rattle.fixed_iv.specs.Place.{Place}
use Rattle.lin_form.specs.declared.lin.Lin.{Lin}

-- the value at the place of the line with this middle and this slope
abbrev pub on_slope : Place → ℚ → ℚ → ℚ
on_slope h middle slope = middle +ℚ h.at *ℚ slope

-- the number lies in the range, and on a line whose middle is a number of the centre, and whose slope is one of the slope
pub record IsCovered (a : Lin) (h : Place) (x : ℚ) : Type 0 where
  pub middle : ℚ
  pub slope : ℚ
  pub ranged : Holds a.range x
  pub centred : Holds a.centre middle
  pub sloped : Holds a.slope slope
  pub is : x ≡ on_slope h middle slope
