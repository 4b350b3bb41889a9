-- Constants that were lifted from plain enclosures are as narrow as these.
use Rattle.std.proofs.Common.{true, Bool, T}
use Rattle.exact.specs.Rational.{ℚ}
use Rattle.enc_plain.specs.declared.plain.Plain.{Plain}
use Rattle.fixed_iv.specs.Extent.{Extent}
use Rattle.fixed_iv.specs.Narrow.{IsNarrowConstant}
use Rattle.fixed_iv.specs.Place.{Place}
use Rattle.fixed_iv.specs.Reach.{IsHeld, Reach, is_small, outer, turned}
use Rattle.fixed_iv.proofs.Held.{known_constant}
use Rattle.sgp4_init.specs.ReachConsts.{reach_consts}
use Rattle.sgp4_model.specs.OrbitRecords.{ConstRecord}
use Rattle.sgp4_shape.specs.Covering.{CoversConsts}
use Rattle.sgp4_shape.specs.HeldConsts.{IsHeldConsts}
use Rattle.sgp4_shape.specs.Lifted.{IsNarrowLift}
use Rattle.sgp4_shape.specs.declared.consts.Consts.{Consts}
use Rattle.orbit_sight.specs.Craft.{plain_covers, plain_extent}

module _ {A : Type 0} {C : A → Place → ℚ → Type 0} {E : A → Extent} {told : Bool} where
  lifted : {a : Plain} {b : A} {h : Place} {x : ℚ} (r : Reach) → T (is_small (outer r)) → IsHeld plain_covers plain_extent true a h x r → (T told → IsNarrowConstant a.iv (E b)) → C b h x → IsHeld C E told b h x r
  lifted {a} {b} {h} {x} r t held narrow covers =
      record {
        covers = covers;
        known = λ i ok. let k = held.known tt ok in known_constant a.iv (E b) x r.range r.spread (narrow i) held.covers k.measured.bounded k.narrow k.inside t;
      }

  pub lifted_held : (consts : Consts Plain) (other : Consts A) (h : Place) (k : ConstRecord) → IsHeldConsts plain_covers plain_extent true consts h k reach_consts → (T told → IsNarrowLift plain_extent E consts other) → CoversConsts C other k →
      IsHeldConsts C E told other h k reach_consts
  unfolding turned
  lifted_held consts other h k held narrow covers = record {
    i = lifted reach_consts.i tt held.i (λ t. (narrow t).i) (covers.i h);
    c = lifted reach_consts.c tt held.c (λ t. (narrow t).c) (covers.c h);
    si = lifted reach_consts.si tt held.si (λ t. (narrow t).si) (covers.si h);
    e = lifted reach_consts.e tt held.e (λ t. (narrow t).e) (covers.e h);
    w0 = lifted reach_consts.w0 tt held.w0 (λ t. (narrow t).w0) (covers.w0 h);
    o0 = lifted reach_consts.o0 tt held.o0 (λ t. (narrow t).o0) (covers.o0 h);
    m0 = lifted reach_consts.m0 tt held.m0 (λ t. (narrow t).m0) (covers.m0 h);
    bstar = lifted reach_consts.bstar tt held.bstar (λ t. (narrow t).bstar) (covers.bstar h);
    a = lifted reach_consts.a tt held.a (λ t. (narrow t).a) (covers.a h);
    eta = lifted reach_consts.eta tt held.eta (λ t. (narrow t).eta) (covers.eta h);
    con41 = lifted reach_consts.con41 tt held.con41 (λ t. (narrow t).con41) (covers.con41 h);
    c5 = lifted reach_consts.c5 tt held.c5 (λ t. (narrow t).c5) (covers.c5 h);
    xmcof = lifted reach_consts.xmcof tt held.xmcof (λ t. (narrow t).xmcof) (covers.xmcof h);
    xlcof = lifted reach_consts.xlcof tt held.xlcof (λ t. (narrow t).xlcof) (covers.xlcof h);
    aycof = lifted reach_consts.aycof tt held.aycof (λ t. (narrow t).aycof) (covers.aycof h);
    delmo = lifted reach_consts.delmo tt held.delmo (λ t. (narrow t).delmo) (covers.delmo h);
    sin_m0 = lifted reach_consts.sin_m0 tt held.sin_m0 (λ t. (narrow t).sin_m0) (covers.sin_m0 h);
    n0 = lifted reach_consts.n0 tt held.n0 (λ t. (narrow t).n0) (covers.n0 h);
    mdot = lifted reach_consts.mdot tt held.mdot (λ t. (narrow t).mdot) (covers.mdot h);
    wdot = lifted reach_consts.wdot tt held.wdot (λ t. (narrow t).wdot) (covers.wdot h);
    odot = lifted reach_consts.odot tt held.odot (λ t. (narrow t).odot) (covers.odot h);
    c1 = lifted reach_consts.c1 tt held.c1 (λ t. (narrow t).c1) (covers.c1 h);
    c4 = lifted reach_consts.c4 tt held.c4 (λ t. (narrow t).c4) (covers.c4 h);
    omgcof = lifted reach_consts.omgcof tt held.omgcof (λ t. (narrow t).omgcof) (covers.omgcof h);
    t2cof = lifted reach_consts.t2cof tt held.t2cof (λ t. (narrow t).t2cof) (covers.t2cof h);
    d2 = lifted reach_consts.d2 tt held.d2 (λ t. (narrow t).d2) (covers.d2 h);
    nodecf = lifted reach_consts.nodecf tt held.nodecf (λ t. (narrow t).nodecf) (covers.nodecf h);
    t3cof = lifted reach_consts.t3cof tt held.t3cof (λ t. (narrow t).t3cof) (covers.t3cof h);
    d3 = lifted reach_consts.d3 tt held.d3 (λ t. (narrow t).d3) (covers.d3 h);
    t4cof = lifted reach_consts.t4cof tt held.t4cof (λ t. (narrow t).t4cof) (covers.t4cof h);
    d4 = lifted reach_consts.d4 tt held.d4 (λ t. (narrow t).d4) (covers.d4 h);
    t5cof = lifted reach_consts.t5cof tt held.t5cof (λ t. (narrow t).t5cof) (covers.t5cof h);
  }
