-- What numerals say of the enclosed constants of an element set.
use Rattle.std.specs.Prelude.{Bool}
use Rattle.exact.specs.Rational.{ℚ, ◌*ℚ◌}
use Rattle.fixed_iv.specs.Extent.{Extent}
use Rattle.fixed_iv.specs.Place.{Place}
use Rattle.fixed_iv.specs.Reach.{Reach, IsHeld}
use Rattle.sgp4_model.specs.OrbitRecords.{ConstRecord}
use Rattle.sgp4_shape.specs.declared.consts.Consts.{Consts}
use Rattle.sgp4_shape.specs.Covering.{unit_minutes}

-- numerals for each constant
pub record ConstReach : Type 0 where
  pub i : Reach
  pub c : Reach
  pub si : Reach
  pub e : Reach
  pub w0 : Reach
  pub o0 : Reach
  pub m0 : Reach
  pub bstar : Reach
  pub a : Reach
  pub eta : Reach
  pub con41 : Reach
  pub c5 : Reach
  pub xmcof : Reach
  pub xlcof : Reach
  pub aycof : Reach
  pub delmo : Reach
  pub sin_m0 : Reach
  pub n0 : Reach
  pub mdot : Reach
  pub wdot : Reach
  pub odot : Reach
  pub c1 : Reach
  pub c4 : Reach
  pub omgcof : Reach
  pub t2cof : Reach
  pub d2 : Reach
  pub nodecf : Reach
  pub t3cof : Reach
  pub d3 : Reach
  pub t4cof : Reach
  pub d4 : Reach
  pub t5cof : Reach

-- each constant is covered at the place, and its enclosure is as its numerals say
pub record IsHeldConsts {A : Type 0} (covers : A → Place → ℚ → Type 0) (extent : A → Extent) (told : Bool) (consts : Consts A) (h : Place) (k : ConstRecord) (r : ConstReach) : Type 0 where
  pub i : IsHeld covers extent told consts.i h k.i r.i
  pub c : IsHeld covers extent told consts.c h k.c r.c
  pub si : IsHeld covers extent told consts.si h k.si r.si
  pub e : IsHeld covers extent told consts.e h k.e r.e
  pub w0 : IsHeld covers extent told consts.w0 h k.w0 r.w0
  pub o0 : IsHeld covers extent told consts.o0 h k.o0 r.o0
  pub m0 : IsHeld covers extent told consts.m0 h k.m0 r.m0
  pub bstar : IsHeld covers extent told consts.bstar h k.bstar r.bstar
  pub a : IsHeld covers extent told consts.a h k.a r.a
  pub eta : IsHeld covers extent told consts.eta h k.eta r.eta
  pub con41 : IsHeld covers extent told consts.con41 h k.con41 r.con41
  pub c5 : IsHeld covers extent told consts.c5 h k.c5 r.c5
  pub xmcof : IsHeld covers extent told consts.xmcof h k.xmcof r.xmcof
  pub xlcof : IsHeld covers extent told consts.xlcof h k.xlcof r.xlcof
  pub aycof : IsHeld covers extent told consts.aycof h k.aycof r.aycof
  pub delmo : IsHeld covers extent told consts.delmo h k.delmo r.delmo
  pub sin_m0 : IsHeld covers extent told consts.sin_m0 h k.sin_m0 r.sin_m0
  pub n0 : IsHeld covers extent told consts.n0 h (unit_minutes 1 *ℚ k.n0) r.n0
  pub mdot : IsHeld covers extent told consts.mdot h (unit_minutes 1 *ℚ k.mdot) r.mdot
  pub wdot : IsHeld covers extent told consts.wdot h (unit_minutes 1 *ℚ k.wdot) r.wdot
  pub odot : IsHeld covers extent told consts.odot h (unit_minutes 1 *ℚ k.odot) r.odot
  pub c1 : IsHeld covers extent told consts.c1 h (unit_minutes 1 *ℚ k.c1) r.c1
  pub c4 : IsHeld covers extent told consts.c4 h (unit_minutes 1 *ℚ k.c4) r.c4
  pub omgcof : IsHeld covers extent told consts.omgcof h (unit_minutes 1 *ℚ k.omgcof) r.omgcof
  pub t2cof : IsHeld covers extent told consts.t2cof h (unit_minutes 1 *ℚ k.t2cof) r.t2cof
  pub d2 : IsHeld covers extent told consts.d2 h (unit_minutes 2 *ℚ k.d2) r.d2
  pub nodecf : IsHeld covers extent told consts.nodecf h (unit_minutes 2 *ℚ k.nodecf) r.nodecf
  pub t3cof : IsHeld covers extent told consts.t3cof h (unit_minutes 2 *ℚ k.t3cof) r.t3cof
  pub d3 : IsHeld covers extent told consts.d3 h (unit_minutes 3 *ℚ k.d3) r.d3
  pub t4cof : IsHeld covers extent told consts.t4cof h (unit_minutes 3 *ℚ k.t4cof) r.t4cof
  pub d4 : IsHeld covers extent told consts.d4 h (unit_minutes 4 *ℚ k.d4) r.d4
  pub t5cof : IsHeld covers extent told consts.t5cof h (unit_minutes 4 *ℚ k.t5cof) r.t5cof
