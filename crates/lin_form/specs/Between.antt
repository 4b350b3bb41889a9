-- What a slope enclosure covers, by the ends of its intervals.
use Rattle.std.specs.Prelude.{◌↔◌}
use Rattle.exact.specs.Extremes.{larger, lesser}
use Rattle.exact.specs.Rational.{ℚ, of_int, ◌+ℚ◌, ◌*ℚ◌, ◌≤ℚ◌}
use Rattle.fixed_iv.specs.Ends.{in_units}
use Rattle.fixed_iv.specs.Holds.{Holds, IsBounded}
use Rattle.fixed_iv.specs.Place.{Place}
use Rattle.lin_form.specs.Covered.{IsCovered}
use Rattle.lin_form.specs.declared.lin.Lin.{Lin}

-- the number lies in the range, and between the ends of the centre and h times the slope, in units of 2^-48
pub record LiesBetween (a : Lin) (h : Place) (x : ℚ) : Type 0 where
  pub ranged : Holds a.range x
  pub low : lesser (of_int a.centre.lo +ℚ h.at *ℚ of_int a.slope.lo) (of_int a.centre.lo +ℚ h.at *ℚ of_int a.slope.hi) ≤ℚ in_units x
  pub high : in_units x ≤ℚ larger (of_int a.centre.hi +ℚ h.at *ℚ of_int a.slope.lo) (of_int a.centre.hi +ℚ h.at *ℚ of_int a.slope.hi)

-- where centre and slope are bounded, just these numbers are covered
abbrev pub CoveredLiesBetween : Type 0
CoveredLiesBetween = (a : Lin) (h : Place) (x : ℚ) → IsBounded a.centre → IsBounded a.slope → IsCovered a h x ↔ LiesBetween a h x
