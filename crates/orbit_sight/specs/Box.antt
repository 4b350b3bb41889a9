-- A box of an orbit over a cell of time: numerals of the time and of each quantity up to the position, and ranges that are known
-- by other means. What the numerals of the constants make of it is a matter of computing.
use Rattle.std.specs.Prelude.{◌≤◌, T, pos, negsuc}
use Rattle.exact.specs.Rational.{◌≤ℚ◌}
use Rattle.exact.specs.Interval.{coef_le, Coef, number_of}
use Rattle.fixed_iv.specs.Reach.{Reach, Reaches, outer, outer_size}
use Rattle.sgp4_drag.specs.Secular.{reach_ecc, reach_mean}
use Rattle.sgp4_model.specs.OrbitRecords.{ConstRecord}
use Rattle.sgp4_model.specs.Position.{PeriodicRecord}
use Rattle.sgp4_periodic.specs.Box.{IsInBox, PositionBox}
use Rattle.sgp4_periodic.specs.Ellipse.{reach_ellipse}
use Rattle.sgp4_periodic.specs.Placed.{reach_at, reach_place}
use Rattle.sgp4_shape.specs.Expected.{DragBox, IsInDragBox}
use Rattle.sgp4_shape.specs.HeldConsts.{ConstReach}
use Rattle.sgp4_shape.specs.HeldMean.{MeanReach}

-- the time from the epoch; the eccentricity before it is raised; the mean elements; a component of the eccentricity vector; the
-- semilatus rectum; the distance, which is at least `far`; a coordinate
pub record OrbitBox : Type 0 where
  pub time : Reach
  pub drag : DragBox
  pub position : PositionBox
  pub far : Coef
  pub eccentricity : Reach
  pub mean : MeanReach
  pub component : Reach
  pub rectum : Reach
  pub distance : Reach
  pub coordinate : Reach

-- the distance, from `far` on
abbrev pub far_distance : OrbitBox → Reach
far_distance b = record { ok = b.distance.ok; range = record { low = b.far; high = b.distance.range.high }; spread = b.distance.spread }

-- the exact quantities of a position lie in the box
pub record IsOrbitInBox (k : ConstRecord) (q : PeriodicRecord) (b : OrbitBox) : Type 0 where
  pub drag : IsInDragBox k b.drag
  pub position : IsInBox q b.position
  pub far : number_of b.far ≤ℚ q.mrt

-- what constants with these numerals give over the time of the box lies in the box
pub record IsClosedMean (k : ConstReach) (b : OrbitBox) : Type 0 where
  pub eccentricity : Reaches (reach_ecc k b.time b.drag) b.eccentricity
  pub am : Reaches (reach_mean k b.time b.drag).am b.mean.am
  pub em : Reaches (reach_mean k b.time b.drag).em b.mean.em
  pub ml : Reaches (reach_mean k b.time b.drag).ml b.mean.ml
  pub wm : Reaches (reach_mean k b.time b.drag).wm b.mean.wm
  pub om : Reaches (reach_mean k b.time b.drag).om b.mean.om

pub record IsClosedPosition (k : ConstReach) (b : OrbitBox) : Type 0 where
  pub first : Reaches (reach_ellipse k b.mean).ax b.component
  pub second : Reaches (reach_ellipse k b.mean).ay b.component
  pub rectum : Reaches (reach_ellipse k b.mean).pl b.rectum
  pub distance : Reaches (reach_at k b.mean b.position).mrt b.distance
  pub x : Reaches (reach_place k b.mean b.position).x b.coordinate
  pub y : Reaches (reach_place k b.mean b.position).y b.coordinate
  pub z : Reaches (reach_place k b.mean b.position).z b.coordinate

-- the numerals say something, and bounds as wide as they say certify the guards: the eccentricity from -0.001 to 1/2, the
-- semimajor axis at least 1, the components of the eccentricity vector at most 60000000000000 units in size, the semilatus rectum
-- at least 1/2, the distance at least 1.02
pub record IsCertifying (b : OrbitBox) : Type 0 where
  pub eccentricity_ok : T b.eccentricity.ok
  pub eccentricity_low : T (coef_le (record { num = negsuc 0; under = 999 }) (outer b.eccentricity).low)
  pub eccentricity_high : T (coef_le (outer b.eccentricity).high (record { num = pos 1; under = 1 }))
  pub axis_ok : T b.mean.am.ok
  pub axis_high : T (coef_le (record { num = pos 1; under = 0 }) (outer b.mean.am).low)
  pub component_ok : T b.component.ok
  pub component_small : outer_size b.component ≤ 60000000000000
  pub rectum_ok : T b.rectum.ok
  pub rectum_high : T (coef_le (record { num = pos 1; under = 1 }) (outer b.rectum).low)
  pub distance_ok : T b.distance.ok
  pub distance_high : T (coef_le (record { num = pos 102; under = 99 }) (outer (far_distance b)).low)
  pub coordinate_ok : T b.coordinate.ok

-- all of this, for constants with these numerals
pub record IsFit (k : ConstReach) (b : OrbitBox) : Type 0 where
  pub mean : IsClosedMean k b
  pub position : IsClosedPosition k b
  pub certifies : IsCertifying b
