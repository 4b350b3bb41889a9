-- The quantities of a position, each as its line says it.
use Rattle.exact.specs.Rational.{ℚ, ◌+ℚ◌, ◌-ℚ◌, ◌*ℚ◌, ◌/ℚ◌, ◌^ℚ◌, neg_ℚ, one_ℚ}
use Rattle.sgp4_model.specs.Angle.{Pair}
use Rattle.sgp4_model.specs.Numerals.{whole, decimal}
use Rattle.sgp4_model.specs.OrbitRecords.{ConstRecord, MeanRecord}
use Rattle.sgp4_model.specs.Position.{PeriodicRecord}
use Rattle.sgp4_model.specs.Vector.{Vector}
use Rattle.sgp4_model.specs.Wgs72.{j2}

-- the lines before Kepler's equation, from the pair of the argument of perigee
module _ (k : ConstRecord) (m : MeanRecord) (of_wm : Pair) where
  open k use {i, c, si, con41, xlcof, aycof}
  open m use {am, em, ml, wm, om}

  -- the first component of the eccentricity vector
  abbrev pub ax : ℚ
  ax = em *ℚ of_wm.cosine

  -- the reciprocal of the semilatus rectum of the mean elements
  abbrev pub v : ℚ
  v = one_ℚ /ℚ (am *ℚ (one_ℚ -ℚ em ^ℚ 2))

  -- the second component of the eccentricity vector
  abbrev pub ay : ℚ
  ay = em *ℚ of_wm.sine +ℚ v *ℚ aycof

  -- the angle of Kepler's equation
  abbrev pub u : ℚ
  u = ml +ℚ wm +ℚ v *ℚ xlcof *ℚ ax

  -- the lines after it, from the pair of its root and the square root
  module _ (of_root : Pair) (b : ℚ) where
    -- the eccentricity times the cosine of the eccentric anomaly
    abbrev pub ec : ℚ
    ec = ax *ℚ of_root.cosine +ℚ ay *ℚ of_root.sine

    -- the eccentricity times its sine
    abbrev pub es : ℚ
    es = ax *ℚ of_root.sine -ℚ ay *ℚ of_root.cosine

    -- the square of the eccentricity
    abbrev pub el : ℚ
    el = ax ^ℚ 2 +ℚ ay ^ℚ 2

    -- the semilatus rectum
    abbrev pub pl : ℚ
    pl = am *ℚ (one_ℚ -ℚ el)

    -- the distance
    abbrev pub rl : ℚ
    rl = am *ℚ (one_ℚ -ℚ ec)

    -- the sine of the argument of latitude
    abbrev pub su : ℚ
    su = am /ℚ rl *ℚ (of_root.sine -ℚ ay -ℚ ax *ℚ es /ℚ (one_ℚ +ℚ b))

    -- its cosine
    abbrev pub cu : ℚ
    cu = am /ℚ rl *ℚ (of_root.cosine -ℚ ax +ℚ ay *ℚ es /ℚ (one_ℚ +ℚ b))

    -- the sine of twice the argument of latitude
    abbrev pub s2 : ℚ
    s2 = whole 2 *ℚ su *ℚ cu

    -- the cosine of twice it
    abbrev pub c2 : ℚ
    c2 = one_ℚ -ℚ whole 2 *ℚ su ^ℚ 2

    -- the first factor of the short-period corrections
    abbrev pub k1 : ℚ
    k1 = decimal 5 1 *ℚ j2 /ℚ pl

    -- the second factor
    abbrev pub k2 : ℚ
    k2 = k1 /ℚ pl

    -- the corrected distance
    abbrev pub mrt : ℚ
    mrt = rl *ℚ (one_ℚ -ℚ decimal 15 1 *ℚ k2 *ℚ b *ℚ con41) +ℚ decimal 5 1 *ℚ k1 *ℚ (one_ℚ -ℚ c ^ℚ 2) *ℚ c2

    -- the change of the argument of latitude
    abbrev pub du : ℚ
    du = neg_ℚ (decimal 25 2) *ℚ k2 *ℚ (whole 7 *ℚ c ^ℚ 2 -ℚ one_ℚ) *ℚ s2

    -- the corrected node
    abbrev pub xnode : ℚ
    xnode = om +ℚ decimal 15 1 *ℚ k2 *ℚ c *ℚ s2

    -- the corrected inclination
    abbrev pub xinc : ℚ
    xinc = i +ℚ decimal 15 1 *ℚ k2 *ℚ c *ℚ si *ℚ c2

    -- the sine of the corrected argument of latitude, from the pair of its change
    abbrev pub sw : Pair → ℚ
    sw turn = su *ℚ turn.cosine +ℚ cu *ℚ turn.sine

    -- its cosine
    abbrev pub cw : Pair → ℚ
    cw turn = cu *ℚ turn.cosine -ℚ su *ℚ turn.sine

    -- all of them, from the pairs of the last three angles
    abbrev pub periodic_record : Pair → Pair → Pair → PeriodicRecord
    periodic_record of_du of_xnode of_xinc = record {
      of_wm = of_wm;
      ax = ax;
      v = v;
      ay = ay;
      u = u;
      of_root = of_root;
      ec = ec;
      es = es;
      el = el;
      pl = pl;
      rl = rl;
      b = b;
      su = su;
      cu = cu;
      s2 = s2;
      c2 = c2;
      k1 = k1;
      k2 = k2;
      mrt = mrt;
      du = du;
      xnode = xnode;
      xinc = xinc;
      of_du = of_du;
      sw = sw of_du;
      cw = cw of_du;
      of_xnode = of_xnode;
      of_xinc = of_xinc;
    }

    -- the position, from the same pairs
    abbrev pub vector : Pair → Pair → Pair → Vector
    vector of_du of_xnode of_xinc = record {
      x = mrt *ℚ (neg_ℚ of_xnode.sine *ℚ of_xinc.cosine *ℚ sw of_du +ℚ of_xnode.cosine *ℚ cw of_du);
      y = mrt *ℚ (of_xnode.cosine *ℚ of_xinc.cosine *ℚ sw of_du +ℚ of_xnode.sine *ℚ cw of_du);
      z = mrt *ℚ of_xinc.sine *ℚ sw of_du;
    }
