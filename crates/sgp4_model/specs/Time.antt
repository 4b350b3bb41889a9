-- Instants as rational numbers of seconds, and the places of a window of time.
use Rattle.std.specs.Prelude.{ℕ, ℤ, pos}
use Rattle.exact.specs.Rational.{ℚ, ◌+ℚ◌, ◌*ℚ◌, ratio, of_int, ◌≤ℚ◌}

-- An instant is a rational number of seconds from 2000-01-01T12:00:00 UTC: the one so many nanoseconds from there.
abbrev pub instant_of_nanos : ℤ → ℚ
instant_of_nanos nanos = ratio nanos 1000000000

-- The instant at a place of a window that starts so many nanoseconds from there. A place counts ticks of 100
-- microseconds from the start, and need not be whole.
abbrev pub instant_of_place : ℤ → ℚ → ℚ
instant_of_place start place = instant_of_nanos start +ℚ place *ℚ ratio (pos 1) 10000

-- the place lies in the closed cell from one tick to another
pub record IsWithin (from to : ℕ) (place : ℚ) : Type 0 where
  pub low : of_int (pos from) ≤ℚ place
  pub high : place ≤ℚ of_int (pos to)

-- a fact holds at every place of the closed cell, whole or not
abbrev pub Throughout : ℕ → ℕ → (ℚ → Type 0) → Type 0
Throughout from to holds = (place : ℚ) → IsWithin from to place → holds place

-- a fact holds at some place of the closed cell, whole or not
abbrev pub Somewhere : ℕ → ℕ → (ℚ → Type 0) → Type 0
Somewhere from to holds = (place : ℚ) × (IsWithin from to place × holds place)
