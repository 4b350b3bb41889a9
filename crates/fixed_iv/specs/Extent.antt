-- How wide an enclosure is, and the rule by which a result of narrow arguments is narrow.
use Rattle.std.specs.Prelude.{ℕ, ◌≤◌, max, pos, ◌-ℤ◌, unsigned_abs}
use Rattle.exact.specs.Rational.{ℚ, ratio, abs_ℚ, ◌≤ℚ◌}
use Rattle.fixed_iv.specs.Holds.{IsBounded}
use Rattle.fixed_iv.specs.declared.iv.Iv.{Iv}

-- The bounds of an enclosure, and its spread in units of 2^-48. The spread means something only where the
-- implementation tells it.
pub record Extent : Type 0 where
  pub ends : Iv
  pub spread : ℕ

-- the width of an interval, in units of 2^-48
abbrev pub width_of : Iv → ℕ
width_of v = unsigned_abs (v.hi -ℤ v.lo)

-- an interval, with its own width as the spread
abbrev pub extent_of : Iv → Extent
extent_of v = record { ends = v; spread = width_of v }

-- the larger size of an end, in units of 2^-48
abbrev pub size : Iv → ℕ
size v = max (unsigned_abs v.lo) (unsigned_abs v.hi)

-- bounded, and the bounds are no wider than the spread
pub record IsMeasured (e : Extent) : Type 0 where
  pub bounded : IsBounded e.ends
  pub width : width_of e.ends ≤ e.spread

-- each of these numbers is at most 32,000 in size
abbrev pub AreSmall : (ℚ → Type 0) → Type 0
AreSmall numbers = (z : ℚ) → numbers z → abs_ℚ z ≤ℚ ratio (pos 32000) 1

-- The rule of an operation, where its arguments are measured: the result is bounded if the exact results are small,
-- and a bounded result is measured, with a spread within the operation's limit.
pub record IsNarrow (arguments : Type 0) (exact : ℚ → Type 0) (limit : ℕ → Type 0) (result : Extent) : Type 0 where
  pub bounded : arguments → AreSmall exact → IsBounded result.ends
  pub measured : arguments → IsBounded result.ends → IsMeasured result
  pub spread : arguments → IsBounded result.ends → limit result.spread
