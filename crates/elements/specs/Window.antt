-- Windows of time, counted in ticks of 100 microseconds.
use Rattle.std.specs.Prelude.{◌≡◌, ℕ, ◌*◌, ◌≤◌, ◌%◌, ℤ, pos, ◌+ℤ◌, unsigned_abs}
use Rattle.civil_time.specs.Scale.{IsInstant}

-- when the window starts, in nanoseconds from 2000-01-01T12:00:00 UTC; how many ticks it has; how many ticks an
-- undecided span may be long
pub record WindowRecord : Type 0 where
  pub start : ℤ
  pub ticks : ℕ
  pub resolution : ℕ

-- the nanoseconds of a tick
abbrev pub tick_nanos : ℕ
tick_nanos = 100_000

-- when a tick of a window is, in nanoseconds from 2000-01-01T12:00:00 UTC
abbrev pub tick_instant : ℤ → ℕ → ℤ
tick_instant start tick = start +ℤ pos (tick * tick_nanos)

-- so many nanoseconds are a whole number of ticks
abbrev pub IsWholeTick : ℤ → Type 0
IsWholeTick nanos = unsigned_abs nanos % tick_nanos ≡ 0

-- the most ticks of a window: ten days
abbrev pub most_ticks : ℕ
most_ticks = 8_640_000_000

-- one to sixty seconds, in ticks
pub record IsResolution (ticks : ℕ) : Type 0 where
  pub least : 10_000 ≤ ticks
  pub most : ticks ≤ 600_000
  pub whole : ticks % 10_000 ≡ 0

-- a window that starts at a whole tick, has at least one tick, and lies in the years of instants
pub record IsWindow (w : WindowRecord) : Type 0 where
  pub start : IsInstant w.start
  pub whole : IsWholeTick w.start
  pub least : 1 ≤ w.ticks
  pub most : w.ticks ≤ most_ticks
  pub resolution : IsResolution w.resolution
  pub «end» : IsInstant (tick_instant w.start w.ticks)
