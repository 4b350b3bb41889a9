-- From the equations of a position to those of its ellipse, and from covered to held mean elements.
use Rattle.std.proofs.Common.{◌≡◌, arith, Bool, false, IsTrue}
use Rattle.exact.specs.Rational.{ℚ}
use Rattle.fixed_iv.specs.Extent.{Extent}
use Rattle.fixed_iv.specs.Place.{Place}
use Rattle.fixed_iv.specs.Reach.{nothing}
use Rattle.fixed_iv.proofs.Held.{covered}
use Rattle.sgp4_model.specs.OrbitRecords.{ConstRecord, MeanRecord}
use Rattle.sgp4_model.specs.Position.{IsPositionUnguarded, PeriodicRecord}
use Rattle.sgp4_model.specs.Vector.{Vector}
use Rattle.sgp4_shape.specs.declared.mean.Mean.{Mean}
use Rattle.sgp4_shape.specs.Covering.{CoversMean}
use Rattle.sgp4_shape.specs.HeldMean.{IsHeldMean, MeanReach}
use Rattle.sgp4_shape.proofs.ExpectedHeld.{no_range}
use Rattle.sgp4_periodic.specs.Box.{PositionBox}
use Rattle.sgp4_periodic.specs.Ellipse.{IsEllipse}

pub ellipse_of_position : {k : ConstRecord} {m : MeanRecord} {q : PeriodicRecord} {pi root : ℚ} {v : Vector} → IsPositionUnguarded k m q pi root v → IsEllipse k m q pi
ellipse_of_position p = record {
  wm_pair = p.long_period.wm_pair;
  ax_is = p.long_period.ax_is;
  am_divides = p.long_period.am_divides;
  v_is = p.long_period.v_is;
  ay_is = p.long_period.ay_is;
  u_is = p.long_period.u_is;
  el_is = p.preliminaries.el_is;
  pl_is = p.preliminaries.pl_is;
}

abbrev pub no_numerals : MeanReach
no_numerals = record { am = nothing; em = nothing; ml = nothing; wm = nothing; om = nothing }

pub covered_mean : {A : Type 0} (covers : A → Place → ℚ → Type 0) (extent : A → Extent) (told : Bool) (mean : Mean A) (h : Place) (m : MeanRecord) → CoversMean covers mean h m → IsHeldMean covers extent told mean h m no_numerals
covered_mean covers extent told mean h m c = record { am = covered c.am; em = covered c.em; ml = covered c.ml; wm = covered c.wm; om = covered c.om }

-- a box in which nothing is known
abbrev pub no_box : PositionBox
no_box = record { known = false; vector = 0; inner = no_range; latitude = no_range; change = no_range }

pub untrue : {b : Bool} → b ≡ false → IsTrue b → ⊥
untrue e t = grind (arith, e, t)
