-- When there is no position.
use Rattle.std.specs.Prelude.{◌⊎◌, Bool}
use Rattle.exact.specs.Rational.{ℚ}
use Rattle.fixed_iv.specs.Extent.{Extent}
use Rattle.fixed_iv.specs.Place.{Place}
use Rattle.fixed_iv.specs.Reach.{IsHeld}
use Rattle.kepler_enc.specs.Guard.{IsUnguarded}
use Rattle.sgp4_model.specs.Angle.{IsPi}
use Rattle.sgp4_model.specs.OrbitRecords.{ConstRecord, MeanRecord}
use Rattle.sgp4_model.specs.Position.{IsPositionUnguarded, PeriodicRecord}
use Rattle.sgp4_model.specs.Vector.{Vector}
use Rattle.sgp4_shape.specs.declared.consts.Consts.{Consts}
use Rattle.sgp4_shape.specs.declared.mean.Mean.{Mean}
use Rattle.sgp4_shape.specs.HeldConsts.{ConstReach, IsHeldConsts}
use Rattle.sgp4_shape.specs.HeldMean.{IsHeldMean, MeanReach}
use Rattle.sgp4_periodic.specs.Box.{IsInBox, PositionBox}
use Rattle.sgp4_periodic.specs.Placed.{reach_at}
use Rattle.sgp4_periodic.specs.Ellipse.{IsEllipse, IsHeldEllipse, reach_ellipse}
use Rattle.sgp4_periodic.specs.Guards.{AreDistant, LieAbove0}
use Rattle.sgp4_periodic.specs.declared.ellipse.Ellipse.{Ellipse}

module _ {A : Type 0} (covers : A → Place → ℚ → Type 0) (extent : A → Extent) (told : Bool)
    (consts : Consts A) (mean : Mean A) where
  -- some enclosure of the ellipse, as narrow as its equations give, has bounds that do not certify Kepler's equation, or
  -- a semilatus rectum above 0
  pub record IsUncertified : Type 0 where
    pub ellipse : Ellipse A
    pub held : (h : Place) (pi : ℚ) (k : ConstRecord) (m : MeanRecord) (q : PeriodicRecord) (r : ConstReach)
        (n : MeanReach) → IsPi pi →
        IsHeldConsts covers extent told consts h k r → IsHeldMean covers extent told mean h m n →
        IsEllipse k m q pi → IsHeldEllipse covers extent told ellipse h q (reach_ellipse r n)
    pub outside : IsUnguarded (extent ellipse.ax).ends (extent ellipse.ay).ends ⊎ ¬ LieAbove0 (extent ellipse.pl).ends

  -- some enclosure of the distance, as narrow as its equations give, has bounds that are not at least the least distance
  pub record IsLow : Type 0 where
    pub mrt : A
    pub held : (h : Place) (pi root : ℚ) (k : ConstRecord) (m : MeanRecord) (q : PeriodicRecord) (v : Vector)
        (r : ConstReach) (n : MeanReach) (b : PositionBox) → IsPi pi →
        IsHeldConsts covers extent told consts h k r → IsHeldMean covers extent told mean h m n →
        IsPositionUnguarded k m q pi root v → IsInBox q b → IsHeld covers extent told mrt h q.mrt (reach_at r n b).mrt
    pub low : ¬ AreDistant (extent mrt).ends

  -- bounds do not meet the guards of the position
  abbrev pub IsUnplaced : Type 0
  IsUnplaced = IsUncertified ⊎ IsLow
