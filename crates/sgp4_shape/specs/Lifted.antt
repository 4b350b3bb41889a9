-- How narrow constants are that were made of the bounds of others.
use Rattle.fixed_iv.specs.Extent.{Extent}
use Rattle.fixed_iv.specs.Narrow.{IsNarrowConstant}
use Rattle.sgp4_shape.specs.declared.consts.Consts.{Consts}

-- each constant is as narrow as one of the bounds of its argument
pub record IsNarrowLift {A B : Type 0} (of : A → Extent) (extent : B → Extent) (consts : Consts A) (lifted : Consts B) : Type 0 where
  pub i : IsNarrowConstant (of consts.i).ends (extent lifted.i)
  pub c : IsNarrowConstant (of consts.c).ends (extent lifted.c)
  pub si : IsNarrowConstant (of consts.si).ends (extent lifted.si)
  pub e : IsNarrowConstant (of consts.e).ends (extent lifted.e)
  pub w0 : IsNarrowConstant (of consts.w0).ends (extent lifted.w0)
  pub o0 : IsNarrowConstant (of consts.o0).ends (extent lifted.o0)
  pub m0 : IsNarrowConstant (of consts.m0).ends (extent lifted.m0)
  pub bstar : IsNarrowConstant (of consts.bstar).ends (extent lifted.bstar)
  pub a : IsNarrowConstant (of consts.a).ends (extent lifted.a)
  pub eta : IsNarrowConstant (of consts.eta).ends (extent lifted.eta)
  pub con41 : IsNarrowConstant (of consts.con41).ends (extent lifted.con41)
  pub c5 : IsNarrowConstant (of consts.c5).ends (extent lifted.c5)
  pub xmcof : IsNarrowConstant (of consts.xmcof).ends (extent lifted.xmcof)
  pub xlcof : IsNarrowConstant (of consts.xlcof).ends (extent lifted.xlcof)
  pub aycof : IsNarrowConstant (of consts.aycof).ends (extent lifted.aycof)
  pub delmo : IsNarrowConstant (of consts.delmo).ends (extent lifted.delmo)
  pub sin_m0 : IsNarrowConstant (of consts.sin_m0).ends (extent lifted.sin_m0)
  pub n0 : IsNarrowConstant (of consts.n0).ends (extent lifted.n0)
  pub mdot : IsNarrowConstant (of consts.mdot).ends (extent lifted.mdot)
  pub wdot : IsNarrowConstant (of consts.wdot).ends (extent lifted.wdot)
  pub odot : IsNarrowConstant (of consts.odot).ends (extent lifted.odot)
  pub c1 : IsNarrowConstant (of consts.c1).ends (extent lifted.c1)
  pub c4 : IsNarrowConstant (of consts.c4).ends (extent lifted.c4)
  pub omgcof : IsNarrowConstant (of consts.omgcof).ends (extent lifted.omgcof)
  pub t2cof : IsNarrowConstant (of consts.t2cof).ends (extent lifted.t2cof)
  pub d2 : IsNarrowConstant (of consts.d2).ends (extent lifted.d2)
  pub nodecf : IsNarrowConstant (of consts.nodecf).ends (extent lifted.nodecf)
  pub t3cof : IsNarrowConstant (of consts.t3cof).ends (extent lifted.t3cof)
  pub d3 : IsNarrowConstant (of consts.d3).ends (extent lifted.d3)
  pub t4cof : IsNarrowConstant (of consts.t4cof).ends (extent lifted.t4cof)
  pub d4 : IsNarrowConstant (of consts.d4).ends (extent lifted.d4)
  pub t5cof : IsNarrowConstant (of consts.t5cof).ends (extent lifted.t5cof)
