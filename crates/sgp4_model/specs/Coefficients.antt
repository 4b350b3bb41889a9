-- The remaining coefficients: of drag on perigee, anomaly and node, and of the long-period corrections (Spacetrack Report
-- No. 3, 1980, SGP4; AIAA 2006-6753, appendix). Times are in minutes.
use Rattle.std.specs.Prelude.{◌≡◌, pos}
use Rattle.exact.specs.Rational.{ℚ, ◌+ℚ◌, ◌*ℚ◌, ◌/ℚ◌, ◌^ℚ◌, neg_ℚ, ratio, zero_ℚ, one_ℚ, ◌≤ℚ◌, ◌<ℚ◌}
use Rattle.sgp4_model.specs.Density.{DensityRecord}
use Rattle.sgp4_model.specs.Drag.{DragRecord, near_circle}
use Rattle.sgp4_model.specs.EpochAngles.{EpochRecord}
use Rattle.sgp4_model.specs.MeanMotion.{MotionRecord, IsFullMotion, IsSimpleMotion}
use Rattle.sgp4_model.specs.Numerals.{whole, decimal, IsDivisor}
use Rattle.sgp4_model.specs.Rates.{RatesRecord}
use Rattle.sgp4_model.specs.Wgs72.{j2, j3}

pub record CoefficientRecord : Type 0 where
  pub omgcof : ℚ
  pub xmcof : ℚ
  pub nodecf : ℚ
  pub t2cof : ℚ
  pub xlcof : ℚ
  pub aycof : ℚ
  pub delmo : ℚ

module _ (z : EpochRecord) (m : MotionRecord) (d : DensityRecord) (g : DragRecord) (r : RatesRecord) (f : CoefficientRecord) where
  open z use {of_w0, of_m0, bstar}
  open m use {c, si, e, bb}
  open d use {eta, coef}
  open g use {c1, c3}
  open r use {w1}
  open f use {omgcof, xmcof, nodecf, t2cof, xlcof, aycof, delmo}

  -- the remaining coefficients; the drag on perigee and anomaly has none in the simple form
  pub record IsRemainingCoefficients : Type 0 where
    pub omgcof_is_simple : IsSimpleMotion m → omgcof ≡ zero_ℚ
    pub omgcof_is : IsFullMotion m → omgcof ≡ bstar *ℚ c3 *ℚ of_w0.cosine
    pub xmcof_is_simple : IsSimpleMotion m → xmcof ≡ zero_ℚ
    pub e_eta_divides : IsFullMotion m → near_circle <ℚ e → IsDivisor (e *ℚ eta)
    pub xmcof_is : IsFullMotion m → near_circle <ℚ e → xmcof ≡ neg_ℚ (ratio (pos 2) 3) *ℚ coef *ℚ bstar /ℚ (e *ℚ eta)
    pub xmcof_is_else : e ≤ℚ near_circle → xmcof ≡ zero_ℚ
    pub nodecf_is : nodecf ≡ decimal 35 1 *ℚ bb *ℚ (neg_ℚ w1 *ℚ c) *ℚ c1
    pub t2cof_is : t2cof ≡ decimal 15 1 *ℚ c1
    pub c_divides : IsDivisor (one_ℚ +ℚ c)
    pub xlcof_is : xlcof ≡ neg_ℚ (decimal 25 2) *ℚ (j3 /ℚ j2) *ℚ si *ℚ (whole 3 +ℚ whole 5 *ℚ c) /ℚ (one_ℚ +ℚ c)
    pub aycof_is : aycof ≡ neg_ℚ (decimal 5 1) *ℚ (j3 /ℚ j2) *ℚ si
    pub delmo_is : delmo ≡ (one_ℚ +ℚ eta *ℚ of_m0.cosine) ^ℚ 3
