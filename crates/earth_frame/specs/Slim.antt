-- Intervals whose width goes with that of another.
use Rattle.std.specs.Prelude.{ℕ, ◌+◌, ◌*◌, ◌≤◌}
use Rattle.fixed_iv.specs.Extent.{Extent, IsMeasured, size, width_of}
use Rattle.fixed_iv.specs.Holds.{IsBounded}
use Rattle.fixed_iv.specs.declared.iv.Iv.{Iv}

-- bounded, at most so many units in size, and no wider than k / 1000 and d / 1000 times w units
pub record IsSlim (w most k d : ℕ) (v : Iv) : Type 0 where
  pub bounded : IsBounded v
  pub size : size v ≤ most
  pub width : width_of v * 1000 ≤ k + d * w

-- measured bounds, at most so many units in size, and a spread of at most k / 1000 and d / 1000 times w units
pub record IsSlimAt (w most k d : ℕ) (e : Extent) : Type 0 where
  pub measured : IsMeasured e
  pub size : size e.ends ≤ most
  pub spread : e.spread * 1000 ≤ k + d * w
