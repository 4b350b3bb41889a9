-- Angles counted in half turns, of which whole turns were taken off.
use Rattle.std.specs.Prelude.{ℤ, pos, ◌≤ℤ◌, ◌+ℤ◌, ◌^◌, ◌*◌}
use Rattle.exact.specs.Rational.{ℚ, ◌-ℚ◌, ◌*ℚ◌, ratio, of_int}
use Rattle.fixed_iv.specs.Holds.{Holds}
use Rattle.fixed_iv.specs.declared.iv.Iv.{Iv}

-- the interval holds the number of half turns less some whole turns
pub record HoldsUpToTurns (v : Iv) (x : ℚ) : Type 0 where
  pub turns : ℤ
  pub holds : Holds v (x -ℚ of_int turns *ℚ ratio (pos 2) 1)

-- the interval lies between 0 and 2, and is at most two units wide
pub record IsWithinTurn (v : Iv) : Type 0 where
  pub low : pos 0 ≤ℤ v.lo
  pub high : v.hi ≤ℤ pos (2 * 2 ^ 48)
  pub narrow : v.hi ≤ℤ (v.lo +ℤ pos 2)
