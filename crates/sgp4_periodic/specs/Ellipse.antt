-- The ellipse with the long-period corrections: what holds of it before Kepler's equation is solved, and its numerals.
use Rattle.std.specs.Prelude.{◌≡◌, Bool}
use Rattle.exact.specs.Rational.{ℚ, ◌+ℚ◌, ◌-ℚ◌, ◌*ℚ◌, ◌/ℚ◌, ◌^ℚ◌, one_ℚ}
use Rattle.fixed_iv.specs.Arithmetic.{numerals}
use Rattle.fixed_iv.specs.Extent.{Extent}
use Rattle.fixed_iv.specs.Place.{Place}
use Rattle.fixed_iv.specs.Reach.{Reach, IsHeld, ◌*ᴿ◌, turned}
use Rattle.fixed_iv.specs.declared.enc.Enc.{Ghosts}
use Rattle.sgp4_model.specs.Angle.{IsPi, IsSinCos}
use Rattle.sgp4_model.specs.Numerals.{IsDivisor}
use Rattle.sgp4_model.specs.OrbitRecords.{ConstRecord, MeanRecord}
use Rattle.sgp4_model.specs.Position.{PeriodicRecord}
use Rattle.sgp4_shape.specs.HeldConsts.{ConstReach, IsHeldConsts}
use Rattle.sgp4_shape.specs.HeldMean.{IsHeldMean, MeanReach}
use Rattle.sgp4_shape.specs.declared.consts.Consts.{Consts}
use Rattle.sgp4_shape.specs.declared.mean.Mean.{Mean}
use Rattle.sgp4_periodic.specs.Divided.{divided}
use Rattle.sgp4_periodic.specs.Lines.{inverse_rectum, longitude, rest_of_square, second_component}
use Rattle.sgp4_periodic.specs.declared.ellipse.Ellipse.{Ellipse}

module _ (k : ConstRecord) (m : MeanRecord) (q : PeriodicRecord) where
  open k use {xlcof, aycof}
  open m use {am, em, ml, wm}
  open q use {of_wm, ax, v, ay, u, el, pl}

  -- the equations of the long-period corrections and of the semilatus rectum, without their guards
  pub record IsEllipse (pi : ℚ) : Type 0 where
    pub wm_pair : IsSinCos pi wm of_wm.sine of_wm.cosine
    pub ax_is : ax ≡ em *ℚ of_wm.cosine
    pub am_divides : IsDivisor (am *ℚ (one_ℚ -ℚ em ^ℚ 2))
    pub v_is : v ≡ one_ℚ /ℚ (am *ℚ (one_ℚ -ℚ em ^ℚ 2))
    pub ay_is : ay ≡ em *ℚ of_wm.sine +ℚ v *ℚ aycof
    pub u_is : u ≡ ml +ℚ wm +ℚ v *ℚ xlcof *ℚ ax
    pub el_is : el ≡ ax ^ℚ 2 +ℚ ay ^ℚ 2
    pub pl_is : pl ≡ am *ℚ (one_ℚ -ℚ el)

-- numerals for the ellipse
pub record EllipseReach : Type 0 where
  pub ax : Reach
  pub ay : Reach
  pub u : Reach
  pub rest : Reach
  pub pl : Reach

-- each of its quantities is covered at the place, and its enclosure is as its numerals say
pub record IsHeldEllipse {A : Type 0} (covers : A → Place → ℚ → Type 0) (extent : A → Extent) (told : Bool)
    (ellipse : Ellipse A) (h : Place) (q : PeriodicRecord) (r : EllipseReach) : Type 0 where
  pub ax : IsHeld covers extent told ellipse.ax h q.ax r.ax
  pub ay : IsHeld covers extent told ellipse.ay h q.ay r.ay
  pub u : IsHeld covers extent told ellipse.u h q.u r.u
  pub rest : IsHeld covers extent told ellipse.rest h (one_ℚ -ℚ q.el) r.rest
  pub pl : IsHeld covers extent told ellipse.pl h q.pl r.pl

module _ (r : ConstReach) (n : MeanReach) where
  -- one over the semilatus rectum of the mean elements
  abbrev pub reach_v : Reach
  reach_v = divided (inverse_rectum numerals n.am n.em)

  -- the first component of the eccentricity vector
  abbrev pub reach_ax : Reach
  reach_ax = n.em *ᴿ turned n.wm

  -- its second component
  abbrev pub reach_ay : Reach
  reach_ay = second_component numerals n.em (turned n.wm) reach_v r.aycof

  -- 1 less its square
  abbrev pub reach_rest : Reach
  reach_rest = rest_of_square numerals reach_ax reach_ay

  -- the ellipse of the mean elements
  abbrev pub reach_ellipse : EllipseReach
  reach_ellipse = record {
    ax = reach_ax;
    ay = reach_ay;
    u = longitude numerals n.ml n.wm reach_v r.xlcof reach_ax;
    rest = reach_rest;
    pl = n.am *ᴿ reach_rest;
  }

-- numerals for the enclosed ellipse follow from those of the constants and the mean elements
abbrev pub HoldsEllipse : {A : Type 0} → Ghosts A → Consts A → Mean A → Ellipse A → Type 0
HoldsEllipse E consts mean ellipse =
    (h : Place) (pi : ℚ) (k : ConstRecord) (m : MeanRecord) (q : PeriodicRecord) (r : ConstReach) (n : MeanReach) →
    IsPi pi → IsHeldConsts E.covers E.extent E.tells consts h k r → IsHeldMean E.covers E.extent E.tells mean h m n →
    IsEllipse k m q pi → IsHeldEllipse E.covers E.extent E.tells ellipse h q (reach_ellipse r n)
