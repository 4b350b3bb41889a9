-- What a place on the Earth knows of the sine and the cosine of its latitude, and of its longitude.
use Rattle.std.specs.Prelude.{ℕ, ◌^◌, ◌≤◌}
use Rattle.exact.specs.Rational.{ℚ}
use Rattle.fixed_iv.specs.Extent.{width_of}
use Rattle.fixed_iv.specs.Holds.{Holds, IsBounded}
use Rattle.fixed_iv.specs.declared.iv.Iv.{Iv}
use Rattle.sgp4_model.specs.Angle.{IsPi, Pair}
use Rattle.sgp4_model.specs.Degrees.{IsPairOfDegrees}

-- bounded, and no wider than so many units of 2^-48
pub record IsNoWider (most : ℕ) (v : Iv) : Type 0 where
  pub bounded : IsBounded v
  pub width : width_of v ≤ most

-- The intervals hold the sine and the cosine of each pair of so many degrees, for each pi of the bracket. They are
-- no wider than 2^20 units.
pub record EnclosePair (degrees : ℚ) (sines cosines : Iv) : Type 0 where
  pub hold : (pi : ℚ) (pair : Pair) → IsPi pi → IsPairOfDegrees pi degrees pair → Holds sines pair.sine × Holds cosines pair.cosine
  pub narrow_sines : IsNoWider (2 ^ 20) sines
  pub narrow_cosines : IsNoWider (2 ^ 20) cosines

-- The interval holds the sine of each pair of so many degrees, and is no wider than 2^20 units.
pub record EncloseSine (degrees : ℚ) (sines : Iv) : Type 0 where
  pub hold : (pi : ℚ) (pair : Pair) → IsPi pi → IsPairOfDegrees pi degrees pair → Holds sines pair.sine
  pub narrow : IsNoWider (2 ^ 20) sines

-- two intervals are no wider than 64 units
pub record AreSlim (a b : Iv) : Type 0 where
  pub first : width_of a ≤ 64
  pub second : width_of b ≤ 64
