-- Recovery of the mean motion and the semimajor axis from an element set, with the period and the perigee (Spacetrack
-- Report No. 3, 1980, SGP4; AIAA 2006-6753, appendix). Lengths are in Earth radii, times in minutes, angles in radians.
use Rattle.std.specs.Prelude.{◌≡◌, pos}
use Rattle.exact.specs.Rational.{ℚ, ◌+ℚ◌, ◌-ℚ◌, ◌*ℚ◌, ◌/ℚ◌, ◌^ℚ◌, ratio, one_ℚ, ◌≤ℚ◌, ◌<ℚ◌}
use Rattle.sgp4_model.specs.Angle.{IsSinCos}
use Rattle.sgp4_model.specs.Degrees.{radians}
use Rattle.sgp4_model.specs.Numerals.{whole, decimal, IsDivisor}
use Rattle.sgp4_model.specs.Records.{SetRecord}
use Rattle.sgp4_model.specs.Root.{IsSqrt, IsCbrt2}
use Rattle.sgp4_model.specs.Wgs72.{ke, earth_radius_km, j2}

-- the inclination i with its cosine c and sine si, the eccentricity e, the mean motion n as given, the quantities on the
-- way to the recovered mean motion n0 and semimajor axis a, the semilatus rectum p, and the radius rp of the perigee
pub record MotionRecord : Type 0 where
  pub i : ℚ
  pub c : ℚ
  pub si : ℚ
  pub e : ℚ
  pub n : ℚ
  pub a1 : ℚ
  pub bb : ℚ
  pub b0 : ℚ
  pub d1 : ℚ
  pub de1 : ℚ
  pub a2 : ℚ
  pub de0 : ℚ
  pub n0 : ℚ
  pub a : ℚ
  pub p : ℚ
  pub rp : ℚ
  pub con41 : ℚ
  pub con42 : ℚ

module _ (m : MotionRecord) where
  open m use {c, e, n, a1, bb, b0, d1, de1, a2, de0, n0, a, p, rp, con41, con42}

  -- the mean motion less the secular effect of the second harmonic, and the semimajor axis that belongs to it
  pub record RecoversMotion : Type 0 where
    pub n_divides : IsDivisor n
    pub a1_is : IsCbrt2 (ke /ℚ n) a1
    pub bb_is : bb ≡ one_ℚ -ℚ e *ℚ e
    pub b0_is : IsSqrt bb b0
    pub b0_bb_divides : IsDivisor (b0 *ℚ bb)
    pub d1_is : d1 ≡ decimal 75 2 *ℚ j2 *ℚ (whole 3 *ℚ c ^ℚ 2 -ℚ one_ℚ) /ℚ (b0 *ℚ bb)
    pub a1_divides : IsDivisor (a1 ^ℚ 2)
    pub de1_is : de1 ≡ d1 /ℚ a1 ^ℚ 2
    pub a2_is :
        a2 ≡ a1 *ℚ (one_ℚ -ℚ de1 ^ℚ 2 -ℚ de1 *ℚ (ratio (pos 1) 3 +ℚ whole 134 *ℚ de1 ^ℚ 2 *ℚ ratio (pos 1) 81))
    pub a2_divides : IsDivisor (a2 ^ℚ 2)
    pub de0_is : de0 ≡ d1 /ℚ a2 ^ℚ 2
    pub de0_divides : IsDivisor (one_ℚ +ℚ de0)
    pub n0_is : n0 ≡ n /ℚ (one_ℚ +ℚ de0)
    pub n0_divides : IsDivisor n0
    pub a_is : IsCbrt2 (ke /ℚ n0) a
    pub p_is : p ≡ a *ℚ bb
    pub rp_is : rp ≡ a *ℚ (one_ℚ -ℚ e)
    pub con41_is : con41 ≡ whole 3 *ℚ c ^ℚ 2 -ℚ one_ℚ
    pub con42_is : con42 ≡ one_ℚ -ℚ whole 5 *ℚ c ^ℚ 2

-- the motion recovered from an element set: its inclination in radians with one pair, its eccentricity, its mean motion
-- in radians per minute, and the recovery
pub record IsMotionRecovered (set : SetRecord) (pi : ℚ) (m : MotionRecord) : Type 0 where
  pub i_is : m.i ≡ radians pi set.incl
  pub i_pair : IsSinCos pi m.i m.si m.c
  pub e_is : m.e ≡ set.ecc
  pub n_is : m.n ≡ set.motion *ℚ whole 2 *ℚ pi *ℚ ratio (pos 1) 1440
  pub recovers : RecoversMotion m

-- the period in minutes
abbrev pub period_of : ℚ → MotionRecord → ℚ
period_of pi m = whole 2 *ℚ pi /ℚ m.n0

-- the perigee in kilometres over the equatorial radius
abbrev pub perigee_of : MotionRecord → ℚ
perigee_of m = (m.rp -ℚ one_ℚ) *ℚ earth_radius_km

-- the perigee is below 220 km: the equations take their simple form
abbrev pub IsSimpleMotion : MotionRecord → Type 0
IsSimpleMotion m = perigee_of m <ℚ whole 220

-- the perigee is at least 220 km: they take their full form
abbrev pub IsFullMotion : MotionRecord → Type 0
IsFullMotion m = whole 220 ≤ℚ perigee_of m
