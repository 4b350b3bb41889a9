-- Roots of Kepler's equation, mean elements and positions from their parts, all equations in one list.
use Rattle.std.specs.Prelude.{◌≡◌, pos, ◌^◌}
use Rattle.exact.specs.Rational.{ℚ, ◌+ℚ◌, ◌-ℚ◌, ◌*ℚ◌, ◌/ℚ◌, ◌^ℚ◌, abs_ℚ, neg_ℚ, one_ℚ, ratio, zero_ℚ, ◌≤ℚ◌, ◌<ℚ◌}
use Rattle.sgp4_model.specs.Angle.{IsNear, IsSinCos, Pair}
use Rattle.sgp4_model.specs.Kepler.{IsKepler}
use Rattle.sgp4_model.specs.MeanElements.{IsMean, SecularRecord}
use Rattle.sgp4_model.specs.OrbitRecords.{ConstRecord, MeanRecord}
use Rattle.sgp4_model.specs.Position.{IsPosition, PeriodicRecord}
use Rattle.sgp4_model.specs.Root.{IsSqrt}
use Rattle.sgp4_model.specs.Vector.{Vector}
use Rattle.sgp4_model.specs.Wgs72.{j2}

-- a pair of the angle leaves at most 2^-60 of Kepler's equation
pub record MeetsKepler (pi u ax ay angle : ℚ) (turn : Pair) : Type 0 where
  pub pair : IsSinCos pi angle turn.sine turn.cosine
  pub residual : IsNear (ratio (pos 1) (2 ^ 60)) (angle +ℚ ay *ℚ turn.cosine -ℚ ax *ℚ turn.sine -ℚ u) zero_ℚ

module _ (k : ConstRecord) (t : ℚ) (s : SecularRecord) where
  open k use {e, w0, o0, m0, bstar, a, eta, c5, xmcof, delmo, sin_m0, n0, mdot, wdot, odot, c1, c4, omgcof, t2cof, d2, nodecf, t3cof, d3, t4cof, d4, t5cof}
  open s use {mf, wf, om, of_mf, g, mm, wm, tempa, of_mm, tempe, templ, ecc}

  -- the equations of mean elements, with their guards
  pub record MeetsMean (pi : ℚ) (m : MeanRecord) : Type 0 where
    pub mf_is : mf ≡ m0 +ℚ mdot *ℚ t
    pub wf_is : wf ≡ w0 +ℚ wdot *ℚ t
    pub om_is : om ≡ o0 +ℚ odot *ℚ t +ℚ nodecf *ℚ t ^ℚ 2
    pub mf_pair : IsSinCos pi mf of_mf.sine of_mf.cosine
    pub g_is : g ≡ omgcof *ℚ t +ℚ xmcof *ℚ ((one_ℚ +ℚ eta *ℚ of_mf.cosine) ^ℚ 3 -ℚ delmo)
    pub mm_is : mm ≡ mf +ℚ g
    pub wm_is : wm ≡ wf -ℚ g
    pub tempa_is : tempa ≡ one_ℚ -ℚ c1 *ℚ t -ℚ d2 *ℚ t ^ℚ 2 -ℚ d3 *ℚ t ^ℚ 3 -ℚ d4 *ℚ t ^ℚ 4
    pub mm_pair : IsSinCos pi mm of_mm.sine of_mm.cosine
    pub tempe_is : tempe ≡ bstar *ℚ c4 *ℚ t +ℚ bstar *ℚ c5 *ℚ (of_mm.sine -ℚ sin_m0)
    pub templ_is : templ ≡ t2cof *ℚ t ^ℚ 2 +ℚ t3cof *ℚ t ^ℚ 3 +ℚ t ^ℚ 4 *ℚ (t4cof +ℚ t *ℚ t5cof)
    pub am_is : m.am ≡ a *ℚ tempa ^ℚ 2
    pub ecc_is : ecc ≡ e -ℚ tempe
    pub em_is : ratio (pos 1) 1000000 ≤ℚ ecc → m.em ≡ ecc
    pub em_is_else : ecc <ℚ ratio (pos 1) 1000000 → m.em ≡ ratio (pos 1) 1000000
    pub ml_is : m.ml ≡ mm +ℚ n0 *ℚ templ
    pub argument_is : m.wm ≡ wm
    pub node_is : m.om ≡ om
    pub ecc_low : neg_ℚ (ratio (pos 1) 1000) ≤ℚ ecc
    pub ecc_high : ecc <ℚ one_ℚ
    pub axis_guarded : one_ℚ ≤ℚ m.am

module _ (k : ConstRecord) (m : MeanRecord) (q : PeriodicRecord) where
  open k use {i, c, si, con41, xlcof, aycof}
  open m use {am, em, ml, wm, om}
  open q use {of_wm, ax, v, ay, u, of_root, ec, es, el, pl, rl, b, su, cu, s2, c2, k1, k2, mrt, du, xnode, xinc, of_du, sw, cw, of_xnode, of_xinc}

  -- the equations of the position, with their guards
  pub record MeetsPosition (pi root : ℚ) (r : Vector) : Type 0 where
    pub wm_pair : IsSinCos pi wm of_wm.sine of_wm.cosine
    pub ax_is : ax ≡ em *ℚ of_wm.cosine
    pub am_divides : ¬ ((am *ℚ (one_ℚ -ℚ em ^ℚ 2)) ≡ zero_ℚ)
    pub v_is : v ≡ one_ℚ /ℚ (am *ℚ (one_ℚ -ℚ em ^ℚ 2))
    pub ay_is : ay ≡ em *ℚ of_wm.sine +ℚ v *ℚ aycof
    pub u_is : u ≡ ml +ℚ wm +ℚ v *ℚ xlcof *ℚ ax
    pub vector_guarded : abs_ℚ ax +ℚ abs_ℚ ay <ℚ one_ℚ
    pub kepler : MeetsKepler pi u ax ay root of_root
    pub ec_is : ec ≡ ax *ℚ of_root.cosine +ℚ ay *ℚ of_root.sine
    pub es_is : es ≡ ax *ℚ of_root.sine -ℚ ay *ℚ of_root.cosine
    pub el_is : el ≡ ax ^ℚ 2 +ℚ ay ^ℚ 2
    pub pl_is : pl ≡ am *ℚ (one_ℚ -ℚ el)
    pub latus_guarded : zero_ℚ <ℚ pl
    pub rl_is : rl ≡ am *ℚ (one_ℚ -ℚ ec)
    pub b_is : IsSqrt (one_ℚ -ℚ el) b
    pub rl_divides : ¬ (rl ≡ zero_ℚ)
    pub b_divides : ¬ ((one_ℚ +ℚ b) ≡ zero_ℚ)
    pub su_is : su ≡ am /ℚ rl *ℚ (of_root.sine -ℚ ay -ℚ ax *ℚ es /ℚ (one_ℚ +ℚ b))
    pub cu_is : cu ≡ am /ℚ rl *ℚ (of_root.cosine -ℚ ax +ℚ ay *ℚ es /ℚ (one_ℚ +ℚ b))
    pub s2_is : s2 ≡ ratio (pos 2) 1 *ℚ su *ℚ cu
    pub c2_is : c2 ≡ one_ℚ -ℚ ratio (pos 2) 1 *ℚ su ^ℚ 2
    pub pl_divides : ¬ (pl ≡ zero_ℚ)
    pub k1_is : k1 ≡ ratio (pos 5) 10 *ℚ j2 /ℚ pl
    pub k2_is : k2 ≡ k1 /ℚ pl
    pub mrt_is :
        mrt ≡
        rl *ℚ (one_ℚ -ℚ ratio (pos 15) 10 *ℚ k2 *ℚ b *ℚ con41)
        +ℚ ratio (pos 5) 10 *ℚ k1 *ℚ (one_ℚ -ℚ c ^ℚ 2) *ℚ c2
    pub du_is : du ≡ neg_ℚ (ratio (pos 25) 100) *ℚ k2 *ℚ (ratio (pos 7) 1 *ℚ c ^ℚ 2 -ℚ one_ℚ) *ℚ s2
    pub xnode_is : xnode ≡ om +ℚ ratio (pos 15) 10 *ℚ k2 *ℚ c *ℚ s2
    pub xinc_is : xinc ≡ i +ℚ ratio (pos 15) 10 *ℚ k2 *ℚ c *ℚ si *ℚ c2
    pub du_pair : IsSinCos pi du of_du.sine of_du.cosine
    pub sw_is : sw ≡ su *ℚ of_du.cosine +ℚ cu *ℚ of_du.sine
    pub cw_is : cw ≡ cu *ℚ of_du.cosine -ℚ su *ℚ of_du.sine
    pub xnode_pair : IsSinCos pi xnode of_xnode.sine of_xnode.cosine
    pub xinc_pair : IsSinCos pi xinc of_xinc.sine of_xinc.cosine
    pub x_is : r.x ≡ mrt *ℚ (neg_ℚ of_xnode.sine *ℚ of_xinc.cosine *ℚ sw +ℚ of_xnode.cosine *ℚ cw)
    pub y_is : r.y ≡ mrt *ℚ (of_xnode.cosine *ℚ of_xinc.cosine *ℚ sw +ℚ of_xnode.sine *ℚ cw)
    pub z_is : r.z ≡ mrt *ℚ of_xinc.sine *ℚ sw
    pub distance_guarded : ratio (pos 102) 100 ≤ℚ mrt

-- so such numbers are a root, mean elements and a position
abbrev pub PartsMakeRoots : Type 0
PartsMakeRoots = (pi u ax ay angle : ℚ) (turn : Pair) → MeetsKepler pi u ax ay angle turn → IsKepler pi u ax ay angle

abbrev pub PartsMakeMeanElements : Type 0
PartsMakeMeanElements = (k : ConstRecord) (t : ℚ) (s : SecularRecord) (pi : ℚ) (m : MeanRecord) → MeetsMean k t s pi m → IsMean k pi t m

abbrev pub PartsMakePositions : Type 0
PartsMakePositions =
    (k : ConstRecord) (m : MeanRecord) (q : PeriodicRecord) (pi root : ℚ) (r : Vector) → MeetsPosition k m q pi root r → IsPosition k m pi root r
