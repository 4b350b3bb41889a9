-- The mean elements at t minutes from the epoch: secular effects of oblateness and drag (Spacetrack Report No. 3, 1980,
-- SGP4; AIAA 2006-6753, appendix).
use Rattle.std.specs.Prelude.{◌≡◌}
use Rattle.exact.specs.Rational.{ℚ, ◌+ℚ◌, ◌-ℚ◌, ◌*ℚ◌, ◌^ℚ◌, neg_ℚ, one_ℚ, ◌≤ℚ◌, ◌<ℚ◌}
use Rattle.sgp4_model.specs.Angle.{IsSinCos, Pair}
use Rattle.sgp4_model.specs.Numerals.{decimal}
use Rattle.sgp4_model.specs.OrbitRecords.{ConstRecord, MeanRecord}

-- the mean anomaly mf, argument of perigee wf and node om without drag; the correction g by drag; the mean anomaly mm and
-- argument of perigee wm with it; the drag factor tempa of the semimajor axis, and what drag takes from the eccentricity,
-- tempe, and adds to the mean anomaly, templ; the eccentricity before it is raised
pub record SecularRecord : Type 0 where
  pub mf : ℚ
  pub wf : ℚ
  pub om : ℚ
  pub of_mf : Pair
  pub g : ℚ
  pub mm : ℚ
  pub wm : ℚ
  pub tempa : ℚ
  pub of_mm : Pair
  pub tempe : ℚ
  pub templ : ℚ
  pub ecc : ℚ

-- the least eccentricity that is used: 10^-6
abbrev pub least_ecc : ℚ
least_ecc = decimal 1 6

module _ (k : ConstRecord) (t : ℚ) (s : SecularRecord) where
  open k use {e, w0, o0, m0, bstar, a, eta, c5, xmcof, delmo, sin_m0, n0, mdot, wdot, odot, c1, c4, omgcof, t2cof, d2, nodecf, t3cof, d3, t4cof, d4, t5cof}
  open s use {mf, wf, om, of_mf, g, mm, wm, tempa, of_mm, tempe, templ, ecc}

  -- the secular angles
  pub record IsSecularAngles (pi : ℚ) : Type 0 where
    pub mf_is : mf ≡ m0 +ℚ mdot *ℚ t
    pub wf_is : wf ≡ w0 +ℚ wdot *ℚ t
    pub om_is : om ≡ o0 +ℚ odot *ℚ t +ℚ nodecf *ℚ t ^ℚ 2
    pub mf_pair : IsSinCos pi mf of_mf.sine of_mf.cosine
    pub g_is : g ≡ omgcof *ℚ t +ℚ xmcof *ℚ ((one_ℚ +ℚ eta *ℚ of_mf.cosine) ^ℚ 3 -ℚ delmo)
    pub mm_is : mm ≡ mf +ℚ g
    pub wm_is : wm ≡ wf -ℚ g

  -- the drag factors
  pub record IsDragFactors (pi : ℚ) : Type 0 where
    pub tempa_is : tempa ≡ one_ℚ -ℚ c1 *ℚ t -ℚ d2 *ℚ t ^ℚ 2 -ℚ d3 *ℚ t ^ℚ 3 -ℚ d4 *ℚ t ^ℚ 4
    pub mm_pair : IsSinCos pi mm of_mm.sine of_mm.cosine
    pub tempe_is : tempe ≡ bstar *ℚ c4 *ℚ t +ℚ bstar *ℚ c5 *ℚ (of_mm.sine -ℚ sin_m0)
    pub templ_is : templ ≡ t2cof *ℚ t ^ℚ 2 +ℚ t3cof *ℚ t ^ℚ 3 +ℚ t ^ℚ 4 *ℚ (t4cof +ℚ t *ℚ t5cof)

  -- the mean elements; the eccentricity is raised to the least where it is smaller
  pub record IsMeanOf (m : MeanRecord) : Type 0 where
    pub am_is : m.am ≡ a *ℚ tempa ^ℚ 2
    pub ecc_is : ecc ≡ e -ℚ tempe
    pub em_is : least_ecc ≤ℚ ecc → m.em ≡ ecc
    pub em_is_else : ecc <ℚ least_ecc → m.em ≡ least_ecc
    pub ml_is : m.ml ≡ mm +ℚ n0 *ℚ templ
    pub wm_is : m.wm ≡ wm
    pub om_is : m.om ≡ om

  -- the mean elements, whether or not they are guarded
  pub record IsMeanUnguarded (pi : ℚ) (m : MeanRecord) : Type 0 where
    pub angles : IsSecularAngles pi
    pub factors : IsDragFactors pi
    pub elements : IsMeanOf m

-- the eccentricity is at least -0.001 and below 1
pub record IsEccentricityGuarded (ecc : ℚ) : Type 0 where
  pub low : neg_ℚ (decimal 1 3) ≤ℚ ecc
  pub high : ecc <ℚ one_ℚ

-- the mean elements of the constants k at t minutes from the epoch, with guards on the eccentricity before it is raised, and
-- on the semimajor axis: at least an Earth radius
pub record IsMean (k : ConstRecord) (pi t : ℚ) (m : MeanRecord) : Type 0 where
  pub secular : SecularRecord
  pub unguarded : IsMeanUnguarded k t secular pi m
  pub guarded : IsEccentricityGuarded secular.ecc
  pub axis_guarded : one_ℚ ≤ℚ m.am
