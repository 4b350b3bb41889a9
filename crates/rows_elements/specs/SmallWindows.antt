-- Windows at the ends of their ranges, and just past them.
use Rattle.std.specs.Prelude.{ℕ, ℤ, pos, neg_ℤ}
use Rattle.elements.specs.Window.{WindowRecord, IsWindow}

-- the window of these numbers: its start in nanoseconds, its ticks and its resolution in ticks
abbrev pub window : ℤ → ℕ → ℕ → WindowRecord
window start ticks resolution = record { start = start; ticks = ticks; resolution = resolution }

-- one tick to ten days, one to sixty seconds, a start at a whole tick, within the years of instants
pub record SmallWindows : Type 0 where
  pub shortest : IsWindow (window (pos 0) 1 10_000)
  pub no_tick : ¬ (IsWindow (window (pos 0) 0 10_000))
  pub longest : IsWindow (window (pos 0) 8_640_000_000 600_000)
  pub too_long : ¬ (IsWindow (window (pos 0) 8_640_000_001 600_000))
  pub no_second : ¬ (IsWindow (window (pos 0) 1 0))
  pub half_a_second_more : ¬ (IsWindow (window (pos 0) 1 15_000))
  pub sixty_one_seconds : ¬ (IsWindow (window (pos 0) 1 610_000))
  pub between_ticks : ¬ (IsWindow (window (pos 50_000) 1 10_000))
  pub first : IsWindow (window (neg_ℤ (pos 1_356_955_200_000_000_000)) 1 10_000)
  pub before_first : ¬ (IsWindow (window (neg_ℤ (pos 1_356_955_200_000_100_000)) 1 10_000))
  pub last : IsWindow (window (pos 1_798_804_799_999_800_000) 1 10_000)
  pub past_last : ¬ (IsWindow (window (pos 1_798_804_799_999_800_000) 2 10_000))
