-- What numerals say of the position, from those of the constants and of the mean elements.
use Rattle.kepler_enc.specs.Spread.{reach_root}
use Rattle.sgp4_shape.specs.HeldConsts.{ConstReach}
use Rattle.sgp4_shape.specs.HeldMean.{MeanReach}
use Rattle.sgp4_periodic.specs.Box.{PositionBox}
use Rattle.sgp4_periodic.specs.Corrected.{CorrectedReach, reach_corrected}
use Rattle.fixed_iv.specs.EnclosedVector.{VectorReach}
use Rattle.sgp4_periodic.specs.Covered.{reach_position}
use Rattle.sgp4_periodic.specs.Ellipse.{reach_ellipse}

-- of a position whose exact quantities lie in a box
module _ (r : ConstReach) (n : MeanReach) (b : PositionBox) where
  -- the corrected distance and angles at Kepler's roots
  abbrev pub reach_at : CorrectedReach
  reach_at =
      let ellipse = reach_ellipse r n in
      reach_corrected r n ellipse (reach_root ellipse.u ellipse.ax ellipse.ay b.vector) b

  -- the position
  abbrev pub reach_place : VectorReach
  reach_place = reach_position reach_at b
