-- What numerals say of the enclosed constants, from those of their parts.
use Rattle.fixed_iv.specs.Place.{Place}
use Rattle.fixed_iv.specs.Reach.{turned}
use Rattle.fixed_iv.specs.declared.enc.Enc.{Ghosts}
use Rattle.sgp4_model.specs.Constants.{InitRecord, kept_of}
use Rattle.sgp4_shape.specs.HeldConsts.{ConstReach, IsHeldConsts}
use Rattle.sgp4_shape.specs.declared.consts.Consts.{Consts}
use Rattle.sgp4_motion.specs.HeldMotion.{IsHeldMotion, MotionReach}
use Rattle.sgp4_motion.specs.declared.recovered.Recovered.{Recovered}
use Rattle.sgp4_init.specs.HeldCoefficients.{CoefficientReach, IsHeldCoefficients}
use Rattle.sgp4_init.specs.HeldDensity.{DensityReach, IsHeldDensity}
use Rattle.sgp4_init.specs.HeldDrag.{DragReach, IsHeldDrag}
use Rattle.sgp4_init.specs.HeldEpoch.{IsHeldEpoch}
use Rattle.sgp4_init.specs.HeldRates.{RatesReach, IsHeldRates}
use Rattle.sgp4_init.specs.HeldSeries.{SeriesReach, IsHeldSeries}
use Rattle.sgp4_init.specs.Numerals.{given_angle, given_drag}
use Rattle.sgp4_init.specs.declared.coefficients.Coefficients.{Coefficients}
use Rattle.sgp4_init.specs.declared.density.Density.{Density}
use Rattle.sgp4_init.specs.declared.drag.Drag.{Drag}
use Rattle.sgp4_init.specs.declared.epoch.Epoch.{Epoch}
use Rattle.sgp4_init.specs.declared.rates.Rates.{Rates}
use Rattle.sgp4_init.specs.declared.series.Series.{Series}

module _ (r : MotionReach) (d : DensityReach) (g : DragReach) (f : RatesReach) (k : CoefficientReach) (s : SeriesReach) where
  -- the constants, gathered
  abbrev pub reach_gathered : ConstReach
  reach_gathered = record {
    i = r.i;
    c = r.c;
    si = r.si;
    e = r.e;
    w0 = given_angle;
    o0 = given_angle;
    m0 = given_angle;
    bstar = given_drag;
    a = r.a;
    eta = d.eta;
    con41 = r.con41;
    c5 = g.c5;
    xmcof = k.xmcof;
    xlcof = k.xlcof;
    aycof = k.aycof;
    delmo = k.delmo;
    sin_m0 = turned given_angle;
    n0 = r.n0;
    mdot = f.mdot;
    wdot = f.wdot;
    odot = f.odot;
    c1 = g.c1;
    c4 = g.c4;
    omgcof = k.omgcof;
    t2cof = k.t2cof;
    d2 = s.d2;
    nodecf = k.nodecf;
    t3cof = s.t3cof;
    d3 = s.d3;
    t4cof = s.t4cof;
    d4 = s.d4;
    t5cof = s.t5cof;
  }

-- the constants are held where their parts are
pub record HoldsGathered {A : Type 0} (E : Ghosts A) (epoch : Epoch A) (motion : Recovered A) (density : Density A) (drag : Drag A) (rates : Rates A) (rest : Coefficients A) (series : Series A) (consts : Consts A) : Type 0 where
  pub gives : (h : Place) (v : InitRecord) (r : MotionReach) (d : DensityReach) (g : DragReach) (f : RatesReach) (k : CoefficientReach) (s : SeriesReach) →
      IsHeldEpoch E epoch h v.epoch → IsHeldMotion E motion h v.motion r → IsHeldDensity E density h v.density d → IsHeldDrag E drag h v.drag g →
      IsHeldRates E rates h v.rates f → IsHeldCoefficients E rest h v.coefficients k → IsHeldSeries E series h v.higher s →
      IsHeldConsts E.covers E.extent E.tells consts h (kept_of v) (reach_gathered r d g f k s)
