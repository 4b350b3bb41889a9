-- What is said of an enclosed position of constants and mean elements.
use Rattle.exact.specs.Rational.{ℚ, ◌-ℚ◌, ◌*ℚ◌, ◌^ℚ◌, one_ℚ}
use Rattle.fixed_iv.specs.EnclosedVector.{CoversVector, IsHeldVector}
use Rattle.fixed_iv.specs.Place.{Place}
use Rattle.fixed_iv.specs.declared.enc.Enc.{Ghosts}
use Rattle.fixed_iv.specs.declared.vec3.Vec3.{Vec3}
use Rattle.sgp4_model.specs.Angle.{IsPi}
use Rattle.sgp4_model.specs.Numerals.{IsDivisor}
use Rattle.sgp4_model.specs.OrbitRecords.{ConstRecord, MeanRecord}
use Rattle.sgp4_model.specs.Position.{IsPosition}
use Rattle.sgp4_model.specs.Vector.{Vector}
use Rattle.sgp4_shape.specs.Covering.{CoversConsts, CoversMean}
use Rattle.sgp4_shape.specs.HeldConsts.{ConstReach, IsHeldConsts}
use Rattle.sgp4_shape.specs.HeldMean.{IsHeldMean, MeanReach}
use Rattle.sgp4_shape.specs.declared.consts.Consts.{Consts}
use Rattle.sgp4_shape.specs.declared.mean.Mean.{Mean}
use Rattle.sgp4_periodic.specs.Box.{IsInBox, PositionBox}
use Rattle.sgp4_periodic.specs.Placed.{reach_place}

module _ {A : Type 0} (E : Ghosts A) (consts : Consts A) (mean : Mean A) where
  -- it covers, at every place, the position of each solution, of all constants and mean elements that are covered
  abbrev pub CoversEachPosition : Vec3 A → Type 0
  CoversEachPosition position =
      (h : Place) (pi root : ℚ) (k : ConstRecord) (m : MeanRecord) (v : Vector) → IsPi pi →
      CoversConsts E.covers consts k → CoversMean E.covers mean h m →
      IsPosition k m pi root v → CoversVector E.covers position h v

  -- numerals for it follow from those of the constants and mean elements, where the exact quantities lie in a box
  abbrev pub HoldsEachPosition : Vec3 A → Type 0
  HoldsEachPosition position =
      (h : Place) (pi root : ℚ) (k : ConstRecord) (m : MeanRecord) (v : Vector) (r : ConstReach) (n : MeanReach)
      (b : PositionBox) → IsPi pi →
      IsHeldConsts E.covers E.extent E.tells consts h k r → IsHeldMean E.covers E.extent E.tells mean h m n →
      (p : IsPosition k m pi root v) → IsInBox p.periodic b →
      IsHeldVector E.covers E.extent E.tells position h v (reach_place r n b)

  -- a position exists for all constants and mean elements that are covered and whose semilatus rectum is not 0
  abbrev pub EachPositionExists : Type 0
  EachPositionExists =
      (h : Place) (pi : ℚ) (k : ConstRecord) (m : MeanRecord) → IsPi pi →
      CoversConsts E.covers consts k → CoversMean E.covers mean h m → IsDivisor (m.am *ℚ (one_ℚ -ℚ m.em ^ℚ 2)) →
      (root : ℚ) × ((v : Vector) × IsPosition k m pi root v)
