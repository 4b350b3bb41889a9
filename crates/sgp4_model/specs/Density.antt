-- Terms of the power-law density of the atmosphere (Spacetrack Report No. 3, 1980, SGP4; AIAA 2006-6753, appendix).
-- Lengths are in Earth radii.
use Rattle.std.specs.Prelude.{◌≡◌}
use Rattle.exact.specs.Rational.{ℚ, ◌+ℚ◌, ◌-ℚ◌, ◌*ℚ◌, ◌/ℚ◌, ◌^ℚ◌, one_ℚ, abs_ℚ}
use Rattle.sgp4_model.specs.MeanMotion.{MotionRecord}
use Rattle.sgp4_model.specs.Numerals.{IsDivisor}
use Rattle.sgp4_model.specs.Root.{IsSqrt}
use Rattle.sgp4_model.specs.Wgs72.{earth_radius_km, density_top_km, density_base_km}

-- the parameter s, the fourth power qs of q less s, and the terms that they give with the recovered motion
pub record DensityRecord : Type 0 where
  pub s : ℚ
  pub qs : ℚ
  pub xi : ℚ
  pub eta : ℚ
  pub psi : ℚ
  pub root_of_psi : ℚ
  pub coef : ℚ
  pub coef1 : ℚ

module _ (m : MotionRecord) (d : DensityRecord) where
  open m use {e, a}
  open d use {s, qs, xi, eta, psi, root_of_psi, coef, coef1}

  -- the terms of the density
  pub record IsDensityTerms : Type 0 where
    pub s_is : s ≡ one_ℚ +ℚ density_base_km /ℚ earth_radius_km
    pub qs_is : qs ≡ ((density_top_km -ℚ density_base_km) /ℚ earth_radius_km) ^ℚ 4
    pub a_less_s_divides : IsDivisor (a -ℚ s)
    pub xi_is : xi ≡ one_ℚ /ℚ (a -ℚ s)
    pub eta_is : eta ≡ a *ℚ e *ℚ xi
    pub psi_is : psi ≡ abs_ℚ (one_ℚ -ℚ eta ^ℚ 2)
    pub coef_is : coef ≡ qs *ℚ xi ^ℚ 4
    pub root_of_psi_is : IsSqrt psi root_of_psi
    pub psi_divides : IsDivisor (psi ^ℚ 3 *ℚ root_of_psi)
    pub coef1_is : coef1 ≡ coef /ℚ (psi ^ℚ 3 *ℚ root_of_psi)
