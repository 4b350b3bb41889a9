-- The offset of UT1 from UTC.
use Rattle.std.specs.Prelude.{ℤ, pos, neg_ℤ, ◌≤ℤ◌}

-- in milliseconds, from -900 to 900
pub record IsOffset (dut1 : ℤ) : Type 0 where
  pub low : neg_ℤ (pos 900) ≤ℤ dut1
  pub high : dut1 ≤ℤ pos 900
