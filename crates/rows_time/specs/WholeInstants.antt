-- Instants that their decimals write in full.
use Rattle.std.specs.Prelude.{ℤ, pos, ◌*ℤ◌}
use Rattle.civil_time.specs.InstantText.{IsWholeIn}

-- nine decimals write each instant in full, four each whole number of ticks of 100 microseconds, and not half a tick
pub record WholeInstants : Type 0 where
  pub nanoseconds : (nanos : ℤ) → IsWholeIn 9 nanos
  pub ticks : (ticks : ℤ) → IsWholeIn 4 (ticks *ℤ pos 100_000)
  pub half_a_tick : ¬ (IsWholeIn 4 (pos 50_000))
