-- Which numbers are sunlit, are dark or graze the shadow.
use Rattle.std.specs.Prelude.{ℤ, ℕ, pos, negsuc}
use Rattle.exact.specs.Rational.{ratio}
use Rattle.sgp4_model.specs.Light.{GrazesShadow, IsDark, IsSunlit, ShadowRecord}

-- a depth and a height in tenths
abbrev pub tenths : ℤ → ℤ → ShadowRecord
tenths p g = record { p = ratio p 10; g = ratio g 10 }

-- a height, at a depth of a half behind the centre
abbrev pub height : ℤ → ℕ → ShadowRecord
height g under = record { p = ratio (negsuc 0) 2; g = ratio g under }

-- sunlit before the centre or over the cylinder, dark behind it and inside; on an edge neither; grazing behind the centre
-- up to 2^-13
pub record ShadowRows : Type 0 where
  pub before : IsSunlit (tenths (pos 2) (negsuc 4))
  pub over : IsSunlit (tenths (negsuc 4) (pos 1))
  pub behind : IsDark (tenths (negsuc 4) (negsuc 0))
  pub behind_is_not_sunlit : ¬ (IsSunlit (tenths (negsuc 4) (negsuc 0)))
  pub before_is_not_dark : ¬ (IsDark (tenths (pos 2) (negsuc 4)))
  pub over_is_not_dark : ¬ (IsDark (tenths (negsuc 4) (pos 1)))
  pub edge_is_not_sunlit : ¬ (IsSunlit (tenths (negsuc 4) (pos 0)))
  pub edge_is_not_dark : ¬ (IsDark (tenths (negsuc 4) (pos 0)))
  pub level_is_not_dark : ¬ (IsDark (tenths (pos 0) (negsuc 4)))
  pub near_above : GrazesShadow (height (pos 1) 8192)
  pub near_below : GrazesShadow (height (negsuc 0) 8192)
  pub far_above : ¬ (GrazesShadow (height (pos 1) 8191))
  pub far_below : ¬ (GrazesShadow (height (negsuc 0) 8191))
  pub before_does_not_graze : ¬ (GrazesShadow (tenths (pos 2) (pos 0)))
  pub level_does_not_graze : ¬ (GrazesShadow (tenths (pos 0) (pos 0)))
