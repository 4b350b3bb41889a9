-- How good a guess is.
use Rattle.std.specs.Prelude.{ℕ, ◌≤◌, pos}
use Rattle.exact.specs.Rational.{ℚ, abs_ℚ, ratio, ◌+ℚ◌, ◌≤ℚ◌, ◌-ℚ◌, ◌/ℚ◌, zero_ℚ}
use Rattle.sgp4_model.specs.Angle.{IsNear, IsSinCos}
use Rattle.sgp4_model.specs.Kepler.{kepler_residual}
use Rattle.exact.specs.Interval.{Inside}
use Rattle.fixed_iv.specs.Arithmetic.{exact}
use Rattle.fixed_iv.specs.Extent.{width_of}
use Rattle.fixed_iv.specs.Holds.{Holds, IsBounded}
use Rattle.fixed_iv.specs.Reach.{Reach, outer}
use Rattle.fixed_iv.specs.declared.iv.Iv.{Iv}
use Rattle.kepler_enc.specs.Lines.{rise}
use Rattle.kepler_enc.specs.Point.{at}

-- with any pair of it, the angle leaves at most n units of 2^-48 of the equation
abbrev pub LeavesAtMost : ℕ → ℚ → ℚ → ℚ → ℚ → ℚ → Type 0
LeavesAtMost n pi u ax ay angle =
    (s c : ℚ) → IsSinCos pi angle s c →
    IsNear (at (pos n)) (kepler_residual u ax ay angle (record { sine = s; cosine = c })) zero_ℚ

-- where Newton's rule leads from an angle with this pair
abbrev pub newton_angle : ℚ → ℚ → ℚ → ℚ → ℚ → ℚ → ℚ
newton_angle u ax ay angle s c =
    angle -ℚ kepler_residual u ax ay angle (record { sine = s; cosine = c }) /ℚ rise exact ax ay s c

-- a bounded interval of at most this width holds the number
pub record IsNarrowAbout (width : ℕ) (v : Iv) (x : ℚ) : Type 0 where
  pub holds : Holds v x
  pub bounded : IsBounded v
  pub narrow : width_of v ≤ width

-- the sizes of two numbers add up to at most so many units
abbrev pub AreSized : ℕ → ℚ → ℚ → Type 0
AreSized sum ax ay = abs_ℚ ax +ℚ abs_ℚ ay ≤ℚ ratio (pos sum) 281474976710656

-- so do those of any two numbers that the intervals hold
abbrev pub AreSizedIn : ℕ → Iv → Iv → Type 0
AreSizedIn sum ax ay = (x y : ℚ) → Holds ax x → Holds ay y → AreSized sum x y

-- each number that the interval holds is within the bounds that numerals give
abbrev pub LiesWithin : Reach → Iv → Type 0
LiesWithin r v = (x : ℚ) → Holds v x → Inside (outer r) x

-- the point is a number within the bounds that numerals give
abbrev pub IsWithin : Reach → Iv → Type 0
IsWithin r point = Inside (outer r) (at point.lo)

-- the point leaves at most n units for some numbers that the intervals hold
pub record IsGoodGuess (n : ℕ) (pi : ℚ) (u ax ay point : Iv) : Type 0 where
  pub middle_u : ℚ
  pub middle_ax : ℚ
  pub middle_ay : ℚ
  pub of_u : Holds u middle_u
  pub of_ax : Holds ax middle_ax
  pub of_ay : Holds ay middle_ay
  pub leaves : LeavesAtMost n pi middle_u middle_ax middle_ay (at point.lo)
