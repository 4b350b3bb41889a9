-- The drag coefficients C1 to C5 (Spacetrack Report No. 3, 1980, SGP4; AIAA 2006-6753, appendix). Lengths are in Earth
-- radii, times in minutes.
use Rattle.std.specs.Prelude.{◌≡◌}
use Rattle.exact.specs.Rational.{ℚ, ◌+ℚ◌, ◌-ℚ◌, ◌*ℚ◌, ◌/ℚ◌, ◌^ℚ◌, neg_ℚ, zero_ℚ, one_ℚ, ◌≤ℚ◌, ◌<ℚ◌}
use Rattle.sgp4_model.specs.Density.{DensityRecord}
use Rattle.sgp4_model.specs.MeanMotion.{MotionRecord, IsFullMotion, IsSimpleMotion}
use Rattle.sgp4_model.specs.Numerals.{whole, decimal, IsDivisor}
use Rattle.sgp4_model.specs.Wgs72.{j2, j3}

pub record DragRecord : Type 0 where
  pub c2 : ℚ
  pub c1 : ℚ
  pub c3 : ℚ
  pub c4 : ℚ
  pub c5 : ℚ

-- the eccentricity up to which the drag on perigee and anomaly has no term that is divided by it: 0.0001
abbrev pub near_circle : ℚ
near_circle = decimal 1 4

module _ (m : MotionRecord) (d : DensityRecord) (g : DragRecord) where
  open m use {c, si, e, bb, n0, a, con41}
  open d use {xi, eta, psi, coef, coef1}
  open g use {c2, c1, c3, c4, c5}

  -- C2, and C1 which is C2 times the drag term
  pub record IsDragCoefficient (bstar : ℚ) : Type 0 where
    pub psi_divides : IsDivisor psi
    pub c2_is :
        c2 ≡
        coef1 *ℚ n0
        *ℚ (
        a *ℚ (one_ℚ +ℚ decimal 15 1 *ℚ eta ^ℚ 2 +ℚ e *ℚ eta *ℚ (whole 4 +ℚ eta ^ℚ 2))
        +ℚ decimal 375 3 *ℚ j2 *ℚ xi /ℚ psi *ℚ con41 *ℚ (whole 8 +ℚ whole 3 *ℚ eta ^ℚ 2 *ℚ (whole 8 +ℚ eta ^ℚ 2))
        )
    pub c1_is : c1 ≡ bstar *ℚ c2

  -- C3, of the drag on the argument of perigee
  pub record IsPerigeeDragCoefficient : Type 0 where
    pub e_divides : near_circle <ℚ e → IsDivisor e
    pub c3_is : near_circle <ℚ e → c3 ≡ neg_ℚ (whole 2) *ℚ coef *ℚ xi *ℚ (j3 /ℚ j2) *ℚ n0 *ℚ si /ℚ e
    pub c3_is_else : e ≤ℚ near_circle → c3 ≡ zero_ℚ

  -- C4, of the secular drag on the eccentricity; it takes the cosine of twice the argument of perigee
  pub record IsEccentricityDragCoefficient (cos_2w0 : ℚ) : Type 0 where
    pub a_psi_divides : IsDivisor (a *ℚ psi)
    pub c4_is :
        c4 ≡
        whole 2 *ℚ n0 *ℚ coef1 *ℚ a *ℚ bb
        *ℚ (
        eta *ℚ (whole 2 +ℚ decimal 5 1 *ℚ eta ^ℚ 2)
        +ℚ e *ℚ (decimal 5 1 +ℚ whole 2 *ℚ eta ^ℚ 2)
        -ℚ j2 *ℚ xi /ℚ (a *ℚ psi)
        *ℚ (
        neg_ℚ (whole 3) *ℚ con41 *ℚ (one_ℚ -ℚ whole 2 *ℚ e *ℚ eta +ℚ eta ^ℚ 2 *ℚ (decimal 15 1 -ℚ decimal 5 1 *ℚ e *ℚ eta))
        +ℚ decimal 75 2 *ℚ (one_ℚ -ℚ c ^ℚ 2) *ℚ (whole 2 *ℚ eta ^ℚ 2 -ℚ e *ℚ eta *ℚ (one_ℚ +ℚ eta ^ℚ 2)) *ℚ cos_2w0
        )
        )

  -- C5, of the periodic drag on the eccentricity; there is none in the simple form
  pub record IsPeriodicEccentricityDragCoefficient : Type 0 where
    pub c5_is_simple : IsSimpleMotion m → c5 ≡ zero_ℚ
    pub c5_is :
        IsFullMotion m →
        c5 ≡
        whole 2 *ℚ coef1 *ℚ a *ℚ bb
        *ℚ (one_ℚ +ℚ decimal 275 2 *ℚ (eta ^ℚ 2 +ℚ e *ℚ eta) +ℚ e *ℚ eta *ℚ eta ^ℚ 2)
