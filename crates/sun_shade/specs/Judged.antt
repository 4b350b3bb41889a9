-- What bounds of a shadow's numbers say of them.
use Rattle.std.specs.Prelude.{pos, ◌≤ℤ◌, ◌<ℤ◌}
use Rattle.fixed_iv.specs.Holds.{Holds}
use Rattle.fixed_iv.specs.declared.iv.Iv.{Iv}
use Rattle.sgp4_model.specs.Light.{ShadowRecord}
use Rattle.sun_shade.specs.declared.vector.Shade.{Shade}

-- a fact of all numbers in the bounds
abbrev pub OfBounds : Shade Iv → (ShadowRecord → Type 0) → Type 0
OfBounds shade fact = (v : ShadowRecord) → Holds shade.p v.p → Holds shade.g v.g → fact v

-- neither bounds are above 0, and they are not both below 0
pub record IsUndecided (shade : Shade Iv) : Type 0 where
  pub p_reaches_0 : shade.p.lo ≤ℤ pos 0
  pub g_reaches_0 : shade.g.lo ≤ℤ pos 0
  pub not_both_below : shade.p.hi <ℤ pos 0 → pos 0 ≤ℤ shade.g.hi
