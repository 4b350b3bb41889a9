-- What numerals say of the enclosed mean elements.
use Rattle.std.specs.Prelude.{Bool}
use Rattle.exact.specs.Rational.{ℚ}
use Rattle.fixed_iv.specs.Extent.{Extent}
use Rattle.fixed_iv.specs.Place.{Place}
use Rattle.fixed_iv.specs.Reach.{Reach, IsHeld}
use Rattle.sgp4_model.specs.OrbitRecords.{MeanRecord}
use Rattle.sgp4_shape.specs.declared.mean.Mean.{Mean}

-- numerals for each mean element
pub record MeanReach : Type 0 where
  pub am : Reach
  pub em : Reach
  pub ml : Reach
  pub wm : Reach
  pub om : Reach

-- each mean element is covered at the place, and its enclosure is as its numerals say
pub record IsHeldMean {A : Type 0} (covers : A → Place → ℚ → Type 0) (extent : A → Extent) (told : Bool) (mean : Mean A) (h : Place) (m : MeanRecord) (r : MeanReach) : Type 0 where
  pub am : IsHeld covers extent told mean.am h m.am r.am
  pub em : IsHeld covers extent told mean.em h m.em r.em
  pub ml : IsHeld covers extent told mean.ml h m.ml r.ml
  pub wm : IsHeld covers extent told mean.wm h m.wm r.wm
  pub om : IsHeld covers extent told mean.om h m.om r.om
