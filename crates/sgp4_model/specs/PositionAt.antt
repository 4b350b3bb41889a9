-- The position of an element set at an instant.
use Rattle.exact.specs.Rational.{ℚ}
use Rattle.sgp4_model.specs.Angle.{IsPi}
use Rattle.sgp4_model.specs.Constants.{IsConsts}
use Rattle.sgp4_model.specs.EpochTime.{minutes_since_epoch}
use Rattle.sgp4_model.specs.MeanElements.{IsMean}
use Rattle.sgp4_model.specs.OrbitRecords.{ConstRecord, MeanRecord}
use Rattle.sgp4_model.specs.Position.{IsPosition}
use Rattle.sgp4_model.specs.Records.{SetRecord}
use Rattle.sgp4_model.specs.Vector.{Vector}

-- a position of the set at an instant, which is in seconds: with one pi, the constants of the set, the mean elements at that
-- time from its epoch and a root of Kepler's equation give it, in Earth radii
pub record IsPositionAt (set : SetRecord) (at : ℚ) (r : Vector) : Type 0 where
  pub pi : ℚ
  pub pi_is : IsPi pi
  pub constants : ConstRecord
  pub constants_are : IsConsts set pi constants
  pub mean : MeanRecord
  pub mean_is : IsMean constants pi (minutes_since_epoch set at) mean
  pub root : ℚ
  pub position_is : IsPosition constants mean pi root r
