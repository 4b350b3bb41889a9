-- Covered constants are held, with numerals that say nothing.
use Rattle.std.proofs.Common.{Bool}
use Rattle.exact.specs.Rational.{ℚ}
use Rattle.fixed_iv.specs.Extent.{Extent}
use Rattle.fixed_iv.specs.Place.{Place}
use Rattle.fixed_iv.specs.Reach.{nothing}
use Rattle.fixed_iv.proofs.Held.{covered}
use Rattle.sgp4_model.specs.OrbitRecords.{ConstRecord}
use Rattle.sgp4_shape.specs.declared.consts.Consts.{Consts}
use Rattle.sgp4_shape.specs.Covering.{CoversConsts}
use Rattle.sgp4_shape.specs.HeldConsts.{ConstReach, IsHeldConsts}

abbrev pub no_numerals : ConstReach
no_numerals = record {
  i = nothing;
  c = nothing;
  si = nothing;
  e = nothing;
  w0 = nothing;
  o0 = nothing;
  m0 = nothing;
  bstar = nothing;
  a = nothing;
  eta = nothing;
  con41 = nothing;
  c5 = nothing;
  xmcof = nothing;
  xlcof = nothing;
  aycof = nothing;
  delmo = nothing;
  sin_m0 = nothing;
  n0 = nothing;
  mdot = nothing;
  wdot = nothing;
  odot = nothing;
  c1 = nothing;
  c4 = nothing;
  omgcof = nothing;
  t2cof = nothing;
  d2 = nothing;
  nodecf = nothing;
  t3cof = nothing;
  d3 = nothing;
  t4cof = nothing;
  d4 = nothing;
  t5cof = nothing;
}

pub covered_consts : {A : Type 0} (covers : A → Place → ℚ → Type 0) (extent : A → Extent) (told : Bool) (consts : Consts A) (k : ConstRecord) → CoversConsts covers consts k → (h : Place) → IsHeldConsts covers extent told consts h k no_numerals
covered_consts covers extent told consts k c h = record {
  i = covered (c.i h);
  c = covered (c.c h);
  si = covered (c.si h);
  e = covered (c.e h);
  w0 = covered (c.w0 h);
  o0 = covered (c.o0 h);
  m0 = covered (c.m0 h);
  bstar = covered (c.bstar h);
  a = covered (c.a h);
  eta = covered (c.eta h);
  con41 = covered (c.con41 h);
  c5 = covered (c.c5 h);
  xmcof = covered (c.xmcof h);
  xlcof = covered (c.xlcof h);
  aycof = covered (c.aycof h);
  delmo = covered (c.delmo h);
  sin_m0 = covered (c.sin_m0 h);
  n0 = covered (c.n0 h);
  mdot = covered (c.mdot h);
  wdot = covered (c.wdot h);
  odot = covered (c.odot h);
  c1 = covered (c.c1 h);
  c4 = covered (c.c4 h);
  omgcof = covered (c.omgcof h);
  t2cof = covered (c.t2cof h);
  d2 = covered (c.d2 h);
  nodecf = covered (c.nodecf h);
  t3cof = covered (c.t3cof h);
  d3 = covered (c.d3 h);
  t4cof = covered (c.t4cof h);
  d4 = covered (c.d4 h);
  t5cof = covered (c.t5cof h);
}
