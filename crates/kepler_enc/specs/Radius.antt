-- Whole radii, and the interval of the numbers within a radius.
use Rattle.std.specs.Prelude.{◌≡◌, ℕ, ◌-◌, ◌*◌, ◌^◌, ◌<◌, ◌≤◌, pos, neg_ℤ}
use Rattle.fixed_iv.specs.Holds.{IsWhole}
use Rattle.fixed_iv.specs.declared.iv.Iv.{Iv}

-- the least whole number above n / d
pub record IsNextAbove (n d above : ℕ) : Type 0 where
  pub over : n < above * d
  pub least : (above - 1) * d ≤ n

-- the interval from minus so many units to so many; every number where that is 2^62 units or more
pub record IsAboutZero (radius : ℕ) (v : Iv) : Type 0 where
  pub low : radius < 2 ^ 62 → v.lo ≡ neg_ℤ (pos radius)
  pub high : radius < 2 ^ 62 → v.hi ≡ pos radius
  pub far : 2 ^ 62 ≤ radius → IsWhole v
