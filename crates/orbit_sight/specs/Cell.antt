-- The time over a cell of a window, in units of 16,384 minutes from the window's start.
use Rattle.std.specs.Prelude.{ℕ, pos, ◌*◌, ◌^◌, ◌+ℤ◌, ◌*ℤ◌, ◌≤ℤ◌, ◌+◌}
use Rattle.exact.specs.Rational.{ℚ, ◌*ℚ◌, ratio, of_int}
use Rattle.fixed_iv.specs.Holds.{Holds}
use Rattle.fixed_iv.specs.Place.{Place}
use Rattle.fixed_iv.specs.declared.iv.Iv.{Iv}

-- a place of the window, which counts ticks of 100 microseconds, in these units
abbrev pub time_of_place : ℚ → ℚ
time_of_place place = place *ℚ ratio (pos 1) 9830400000

-- at some place of the cell the enclosure covers the number
pub record CoversSomewhere {A : Type 0} (covers : A → Place → ℚ → Type 0) (a : A) (x : ℚ) : Type 0 where
  pub at : Place
  pub covered : covers a at x

-- the interval holds a tick's time, and has the whole units next to it as its ends: a tick is 2^28 / 9375 units
pub record IsTickTime (tick : ℕ) (v : Iv) : Type 0 where
  pub holds : Holds v (time_of_place (of_int (pos tick)))
  pub low : pos (tick * 2 ^ 28) ≤ℤ (v.lo *ℤ pos 9375 +ℤ pos 9374)
  pub high : (v.hi *ℤ pos 9375) ≤ℤ pos (tick * 2 ^ 28 + 9374)
  pub sign : pos 0 ≤ℤ v.lo
