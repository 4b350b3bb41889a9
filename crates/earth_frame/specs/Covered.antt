-- What an enclosure covers of an angle from which whole turns were taken off.
use Rattle.std.specs.Prelude.{ℤ, pos}
use Rattle.exact.specs.Rational.{ℚ, ◌-ℚ◌, ◌*ℚ◌, ratio, of_int}
use Rattle.fixed_iv.specs.Place.{Place}

-- the angle in radians less some whole turns is covered
pub record CoversAngle {A : Type 0} (covers : A → Place → ℚ → Type 0) (a : A) (h : Place) (pi angle : ℚ) : Type 0 where
  pub turns : ℤ
  pub covered : covers a h (angle -ℚ of_int turns *ℚ (ratio (pos 2) 1 *ℚ pi))
