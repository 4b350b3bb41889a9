-- How narrow the enclosures of the Earth's turn and of the Sun are.
use Rattle.std.specs.Prelude.{ℕ, pos, neg_ℤ, ◌≤◌, ◌≤ℤ◌, ◌^◌}
use Rattle.fixed_iv.specs.Extent.{Extent, IsMeasured}
use Rattle.fixed_iv.specs.declared.iv.Iv.{Iv}

-- the interval lies between -1 and 1
pub record IsUnitWide (v : Iv) : Type 0 where
  pub low : neg_ℤ (pos (2 ^ 48)) ≤ℤ v.lo
  pub high : v.hi ≤ℤ pos (2 ^ 48)

-- bounds between -1 and 1, no wider than the spread, which is at most 2
pub record IsWithinOne (e : Extent) : Type 0 where
  pub measured : IsMeasured e
  pub unit : IsUnitWide e.ends
  pub most : e.spread ≤ 2 ^ 49

-- bounds no wider than the spread, which is at most so many units of 2^-48
pub record IsSpreadWithin (limit : ℕ) (e : Extent) : Type 0 where
  pub measured : IsMeasured e
  pub spread : e.spread ≤ limit
