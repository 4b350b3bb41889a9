-- The offset of UT1 from UTC in milliseconds, and instants of UT1.
use Rattle.std.specs.Prelude.{ℤ, pos, neg_ℤ, ◌+ℤ◌, ◌-ℤ◌, ◌*ℤ◌, ◌≤ℤ◌}
use Rattle.civil_time.specs.Scale.{first_instant, last_instant}

-- the nanoseconds of UT1 at so many of UTC
abbrev pub ut1_nanos : ℤ → ℤ → ℤ
ut1_nanos dut1 nanos = nanos +ℤ dut1 *ℤ pos 1000000

-- at most 900 milliseconds away from the years of instants
pub record IsNearInstant (nanos : ℤ) : Type 0 where
  pub low : (first_instant -ℤ pos 900000000) ≤ℤ nanos
  pub high : nanos ≤ℤ (last_instant +ℤ pos 900000000)
