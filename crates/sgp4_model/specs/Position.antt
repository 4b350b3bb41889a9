-- The position at a time from the mean elements: long-period and short-period corrections (Spacetrack Report No. 3, 1980,
-- SGP4; AIAA 2006-6753, appendix). In Earth radii and radians, in the frame of the true equator and mean equinox (TEME).
use Rattle.std.specs.Prelude.{◌≡◌}
use Rattle.exact.specs.Rational.{ℚ, ◌+ℚ◌, ◌-ℚ◌, ◌*ℚ◌, ◌/ℚ◌, ◌^ℚ◌, neg_ℚ, zero_ℚ, one_ℚ, abs_ℚ, ◌≤ℚ◌, ◌<ℚ◌}
use Rattle.sgp4_model.specs.Angle.{IsSinCos, Pair}
use Rattle.sgp4_model.specs.Kepler.{SolvesKepler}
use Rattle.sgp4_model.specs.Numerals.{whole, decimal, IsDivisor}
use Rattle.sgp4_model.specs.OrbitRecords.{ConstRecord, MeanRecord}
use Rattle.sgp4_model.specs.Root.{IsSqrt}
use Rattle.sgp4_model.specs.Vector.{Vector}
use Rattle.sgp4_model.specs.Wgs72.{j2}

-- the long-period corrections ax, v, ay, u; the pair of Kepler's root; what it gives: ec, es, el, the semilatus rectum pl,
-- the distance rl and b; sine and cosine of the argument of latitude, su and cu, and of twice it, s2 and c2; the short-period
-- corrections: the distance mrt, the change du of the argument of latitude with the corrected sw and cw, the node xnode and
-- the inclination xinc
pub record PeriodicRecord : Type 0 where
  pub of_wm : Pair
  pub ax : ℚ
  pub v : ℚ
  pub ay : ℚ
  pub u : ℚ
  pub of_root : Pair
  pub ec : ℚ
  pub es : ℚ
  pub el : ℚ
  pub pl : ℚ
  pub rl : ℚ
  pub b : ℚ
  pub su : ℚ
  pub cu : ℚ
  pub s2 : ℚ
  pub c2 : ℚ
  pub k1 : ℚ
  pub k2 : ℚ
  pub mrt : ℚ
  pub du : ℚ
  pub xnode : ℚ
  pub xinc : ℚ
  pub of_du : Pair
  pub sw : ℚ
  pub cw : ℚ
  pub of_xnode : Pair
  pub of_xinc : Pair

module _ (k : ConstRecord) (m : MeanRecord) (q : PeriodicRecord) where
  open k use {i, c, si, con41, xlcof, aycof}
  open m use {am, em, ml, wm, om}
  open q use {of_wm, ax, v, ay, u, of_root, ec, es, el, pl, rl, b, su, cu, s2, c2, k1, k2, mrt, du, xnode, xinc, of_du, sw, cw, of_xnode, of_xinc}

  -- the long-period corrections, with a guard on the corrected eccentricity
  pub record IsLongPeriod (pi : ℚ) : Type 0 where
    pub wm_pair : IsSinCos pi wm of_wm.sine of_wm.cosine
    pub ax_is : ax ≡ em *ℚ of_wm.cosine
    pub am_divides : IsDivisor (am *ℚ (one_ℚ -ℚ em ^ℚ 2))
    pub v_is : v ≡ one_ℚ /ℚ (am *ℚ (one_ℚ -ℚ em ^ℚ 2))
    pub ay_is : ay ≡ em *ℚ of_wm.sine +ℚ v *ℚ aycof
    pub u_is : u ≡ ml +ℚ wm +ℚ v *ℚ xlcof *ℚ ax
    pub guarded : abs_ℚ ax +ℚ abs_ℚ ay <ℚ one_ℚ

  -- the quantities before the short-period corrections, with a guard on the semilatus rectum
  pub record IsShortPeriodPreliminaries : Type 0 where
    pub ec_is : ec ≡ ax *ℚ of_root.cosine +ℚ ay *ℚ of_root.sine
    pub es_is : es ≡ ax *ℚ of_root.sine -ℚ ay *ℚ of_root.cosine
    pub el_is : el ≡ ax ^ℚ 2 +ℚ ay ^ℚ 2
    pub pl_is : pl ≡ am *ℚ (one_ℚ -ℚ el)
    pub guarded : zero_ℚ <ℚ pl
    pub rl_is : rl ≡ am *ℚ (one_ℚ -ℚ ec)
    pub b_is : IsSqrt (one_ℚ -ℚ el) b

  -- the argument of latitude before its correction
  pub record IsArgumentOfLatitude : Type 0 where
    pub rl_divides : IsDivisor rl
    pub b_divides : IsDivisor (one_ℚ +ℚ b)
    pub su_is : su ≡ am /ℚ rl *ℚ (of_root.sine -ℚ ay -ℚ ax *ℚ es /ℚ (one_ℚ +ℚ b))
    pub cu_is : cu ≡ am /ℚ rl *ℚ (of_root.cosine -ℚ ax +ℚ ay *ℚ es /ℚ (one_ℚ +ℚ b))
    pub s2_is : s2 ≡ whole 2 *ℚ su *ℚ cu
    pub c2_is : c2 ≡ one_ℚ -ℚ whole 2 *ℚ su ^ℚ 2
    pub pl_divides : IsDivisor pl
    pub k1_is : k1 ≡ decimal 5 1 *ℚ j2 /ℚ pl
    pub k2_is : k2 ≡ k1 /ℚ pl

  -- the short-period corrections of distance, argument of latitude, node and inclination
  pub record IsShortPeriod : Type 0 where
    pub mrt_is :
        mrt ≡
        rl *ℚ (one_ℚ -ℚ decimal 15 1 *ℚ k2 *ℚ b *ℚ con41)
        +ℚ decimal 5 1 *ℚ k1 *ℚ (one_ℚ -ℚ c ^ℚ 2) *ℚ c2
    pub du_is : du ≡ neg_ℚ (decimal 25 2) *ℚ k2 *ℚ (whole 7 *ℚ c ^ℚ 2 -ℚ one_ℚ) *ℚ s2
    pub xnode_is : xnode ≡ om +ℚ decimal 15 1 *ℚ k2 *ℚ c *ℚ s2
    pub xinc_is : xinc ≡ i +ℚ decimal 15 1 *ℚ k2 *ℚ c *ℚ si *ℚ c2

  -- the sine and the cosine of the corrected argument of latitude
  pub record IsCorrectedLatitude (pi : ℚ) : Type 0 where
    pub du_pair : IsSinCos pi du of_du.sine of_du.cosine
    pub sw_is : sw ≡ su *ℚ of_du.cosine +ℚ cu *ℚ of_du.sine
    pub cw_is : cw ≡ cu *ℚ of_du.cosine -ℚ su *ℚ of_du.sine

  -- the position vector
  pub record IsTemeVector (pi : ℚ) (r : Vector) : Type 0 where
    pub xnode_pair : IsSinCos pi xnode of_xnode.sine of_xnode.cosine
    pub xinc_pair : IsSinCos pi xinc of_xinc.sine of_xinc.cosine
    pub x_is : r.x ≡ mrt *ℚ (neg_ℚ of_xnode.sine *ℚ of_xinc.cosine *ℚ sw +ℚ of_xnode.cosine *ℚ cw)
    pub y_is : r.y ≡ mrt *ℚ (of_xnode.cosine *ℚ of_xinc.cosine *ℚ sw +ℚ of_xnode.sine *ℚ cw)
    pub z_is : r.z ≡ mrt *ℚ of_xinc.sine *ℚ sw

  -- the position at Kepler's root, whatever its distance
  pub record IsPositionUnguarded (pi root : ℚ) (r : Vector) : Type 0 where
    pub long_period : IsLongPeriod pi
    pub kepler : SolvesKepler pi u ax ay root of_root
    pub preliminaries : IsShortPeriodPreliminaries
    pub argument_of_latitude : IsArgumentOfLatitude
    pub short_period : IsShortPeriod
    pub corrected_latitude : IsCorrectedLatitude pi
    pub vector : IsTemeVector pi r

-- the least distance that is taken, in Earth radii: 1.02
abbrev pub least_distance : ℚ
least_distance = decimal 102 2

-- the position of the constants k and the mean elements m at Kepler's root, with a guard on the distance
pub record IsPosition (k : ConstRecord) (m : MeanRecord) (pi root : ℚ) (r : Vector) : Type 0 where
  pub periodic : PeriodicRecord
  pub unguarded : IsPositionUnguarded k m periodic pi root r
  pub guarded : least_distance ≤ℚ periodic.mrt
