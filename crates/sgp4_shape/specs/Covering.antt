-- What enclosures of the constants of an element set, and of the mean elements at a time, cover.
use Rattle.std.specs.Prelude.{ℕ, pos, ◌^◌}
use Rattle.exact.specs.Rational.{ℚ, ◌*ℚ◌, ratio}
use Rattle.fixed_iv.specs.Place.{Place}
use Rattle.sgp4_model.specs.OrbitRecords.{ConstRecord, MeanRecord}
use Rattle.sgp4_shape.specs.declared.consts.Consts.{Consts}
use Rattle.sgp4_shape.specs.declared.mean.Mean.{Mean}

-- 16384^n: a rate per minute to the power n is so many times greater per unit of 16,384 minutes
abbrev pub unit_minutes : ℕ → ℚ
unit_minutes n = ratio (pos (16384 ^ n)) 1

-- the number is covered at every place of the cell
abbrev pub Throughout : {A : Type 0} → (A → Place → ℚ → Type 0) → A → ℚ → Type 0
Throughout covers a x = (h : Place) → covers a h x

-- each constant is covered at every place, the rates and the terms of drag in units of 16,384 minutes
pub record CoversConsts {A : Type 0} (covers : A → Place → ℚ → Type 0) (consts : Consts A) (k : ConstRecord) : Type 0 where
  pub i : Throughout covers consts.i k.i
  pub c : Throughout covers consts.c k.c
  pub si : Throughout covers consts.si k.si
  pub e : Throughout covers consts.e k.e
  pub w0 : Throughout covers consts.w0 k.w0
  pub o0 : Throughout covers consts.o0 k.o0
  pub m0 : Throughout covers consts.m0 k.m0
  pub bstar : Throughout covers consts.bstar k.bstar
  pub a : Throughout covers consts.a k.a
  pub eta : Throughout covers consts.eta k.eta
  pub con41 : Throughout covers consts.con41 k.con41
  pub c5 : Throughout covers consts.c5 k.c5
  pub xmcof : Throughout covers consts.xmcof k.xmcof
  pub xlcof : Throughout covers consts.xlcof k.xlcof
  pub aycof : Throughout covers consts.aycof k.aycof
  pub delmo : Throughout covers consts.delmo k.delmo
  pub sin_m0 : Throughout covers consts.sin_m0 k.sin_m0
  pub n0 : Throughout covers consts.n0 (unit_minutes 1 *ℚ k.n0)
  pub mdot : Throughout covers consts.mdot (unit_minutes 1 *ℚ k.mdot)
  pub wdot : Throughout covers consts.wdot (unit_minutes 1 *ℚ k.wdot)
  pub odot : Throughout covers consts.odot (unit_minutes 1 *ℚ k.odot)
  pub c1 : Throughout covers consts.c1 (unit_minutes 1 *ℚ k.c1)
  pub c4 : Throughout covers consts.c4 (unit_minutes 1 *ℚ k.c4)
  pub omgcof : Throughout covers consts.omgcof (unit_minutes 1 *ℚ k.omgcof)
  pub t2cof : Throughout covers consts.t2cof (unit_minutes 1 *ℚ k.t2cof)
  pub d2 : Throughout covers consts.d2 (unit_minutes 2 *ℚ k.d2)
  pub nodecf : Throughout covers consts.nodecf (unit_minutes 2 *ℚ k.nodecf)
  pub t3cof : Throughout covers consts.t3cof (unit_minutes 2 *ℚ k.t3cof)
  pub d3 : Throughout covers consts.d3 (unit_minutes 3 *ℚ k.d3)
  pub t4cof : Throughout covers consts.t4cof (unit_minutes 3 *ℚ k.t4cof)
  pub d4 : Throughout covers consts.d4 (unit_minutes 4 *ℚ k.d4)
  pub t5cof : Throughout covers consts.t5cof (unit_minutes 4 *ℚ k.t5cof)

-- each mean element is covered at the place
pub record CoversMean {A : Type 0} (covers : A → Place → ℚ → Type 0) (mean : Mean A) (h : Place) (m : MeanRecord) : Type 0 where
  pub am : covers mean.am h m.am
  pub em : covers mean.em h m.em
  pub ml : covers mean.ml h m.ml
  pub wm : covers mean.wm h m.wm
  pub om : covers mean.om h m.om
