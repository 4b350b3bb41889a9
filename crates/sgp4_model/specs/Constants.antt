-- The propagation constants of an element set: the initialisation of SGP4 (Spacetrack Report No. 3, 1980; AIAA 2006-6753,
-- appendix), line by line.
use Rattle.std.specs.Prelude.{◌≡◌}
use Rattle.exact.specs.Rational.{ℚ}
use Rattle.sgp4_model.specs.Coefficients.{CoefficientRecord, IsRemainingCoefficients}
use Rattle.sgp4_model.specs.Density.{DensityRecord, IsDensityTerms}
use Rattle.sgp4_model.specs.Drag.{DragRecord, IsDragCoefficient, IsPerigeeDragCoefficient, IsEccentricityDragCoefficient, IsPeriodicEccentricityDragCoefficient}
use Rattle.sgp4_model.specs.EpochAngles.{EpochRecord, IsAtEpoch}
use Rattle.sgp4_model.specs.HigherDrag.{HigherDragRecord, IsHigherDragTerms}
use Rattle.sgp4_model.specs.MeanMotion.{MotionRecord, IsMotionRecovered}
use Rattle.sgp4_model.specs.OrbitRecords.{ConstRecord}
use Rattle.sgp4_model.specs.Rates.{RatesRecord, IsOblatenessFactors, IsMeanAnomalyRate, IsPerigeeRate, IsNodeRate}
use Rattle.sgp4_model.specs.Records.{SetRecord}

-- all quantities of the initialisation
pub record InitRecord : Type 0 where
  pub epoch : EpochRecord
  pub motion : MotionRecord
  pub density : DensityRecord
  pub drag : DragRecord
  pub rates : RatesRecord
  pub coefficients : CoefficientRecord
  pub higher : HigherDragRecord

module _ (v : InitRecord) where
  open v use {epoch, motion, density, drag, rates, coefficients, higher}

  -- the quantities are those of an element set, with one pi
  pub record IsInitialised (set : SetRecord) (pi : ℚ) : Type 0 where
    pub at_epoch : IsAtEpoch set pi epoch
    pub recovered : IsMotionRecovered set pi motion
    pub density_terms : IsDensityTerms motion density
    pub drag_coefficient : IsDragCoefficient motion density drag epoch.bstar
    pub perigee_drag : IsPerigeeDragCoefficient motion density drag
    pub eccentricity_drag : IsEccentricityDragCoefficient motion density drag epoch.of_twice_w0.cosine
    pub periodic_eccentricity_drag : IsPeriodicEccentricityDragCoefficient motion density drag
    pub oblateness_factors : IsOblatenessFactors motion rates
    pub mean_anomaly_rate : IsMeanAnomalyRate motion rates
    pub perigee_rate : IsPerigeeRate motion rates
    pub node_rate : IsNodeRate motion rates
    pub remaining : IsRemainingCoefficients epoch motion density drag rates coefficients
    pub higher_drag : IsHigherDragTerms motion density drag higher

  -- those of them that the propagation takes
  abbrev pub kept_of : ConstRecord
  kept_of = record {
    i = motion.i;
    c = motion.c;
    si = motion.si;
    e = motion.e;
    w0 = epoch.w0;
    o0 = epoch.o0;
    m0 = epoch.m0;
    bstar = epoch.bstar;
    a = motion.a;
    eta = density.eta;
    con41 = motion.con41;
    c5 = drag.c5;
    xmcof = coefficients.xmcof;
    xlcof = coefficients.xlcof;
    aycof = coefficients.aycof;
    delmo = coefficients.delmo;
    sin_m0 = epoch.of_m0.sine;
    n0 = motion.n0;
    mdot = rates.mdot;
    wdot = rates.wdot;
    odot = rates.odot;
    c1 = drag.c1;
    c4 = drag.c4;
    omgcof = coefficients.omgcof;
    t2cof = coefficients.t2cof;
    d2 = higher.d2;
    nodecf = coefficients.nodecf;
    t3cof = higher.t3cof;
    d3 = higher.d3;
    t4cof = higher.t4cof;
    d4 = higher.d4;
    t5cof = higher.t5cof;
  }

-- the constants of an element set, with one pi
pub record IsConsts (set : SetRecord) (pi : ℚ) (k : ConstRecord) : Type 0 where
  pub quantities : InitRecord
  pub initialised : IsInitialised quantities set pi
  pub kept : k ≡ kept_of quantities
