-- Where a satellite sinks, by the equations: their guards fail, or hold by little, so that bounds can tell one or the other.
use Rattle.std.specs.Prelude.{◌⊎◌}
use Rattle.exact.specs.Rational.{ℚ, neg_ℚ, ◌<ℚ◌}
use Rattle.sgp4_model.specs.Angle.{IsPi}
use Rattle.sgp4_model.specs.Constants.{IsConsts}
use Rattle.sgp4_model.specs.EpochTime.{minutes_since_epoch}
use Rattle.sgp4_model.specs.MeanElements.{IsMean, IsMeanUnguarded, SecularRecord}
use Rattle.sgp4_model.specs.Numerals.{decimal}
use Rattle.sgp4_model.specs.OrbitRecords.{ConstRecord, MeanRecord}
use Rattle.sgp4_model.specs.Position.{IsPositionUnguarded, PeriodicRecord}
use Rattle.sgp4_model.specs.Records.{SetRecord}
use Rattle.sgp4_model.specs.Vector.{Vector}

module _ (k : ConstRecord) (pi t : ℚ) where
  -- mean elements of the constants at t minutes from the epoch, guarded or not, have an eccentricity, before it is raised,
  -- below -0.0009, or a semimajor axis below 1.001
  pub record IsSinkingMean : Type 0 where
    pub secular : SecularRecord
    pub mean : MeanRecord
    pub unguarded : IsMeanUnguarded k t secular pi mean
    pub sinks : (secular.ecc <ℚ neg_ℚ (decimal 9 4)) ⊎ (mean.am <ℚ decimal 1001 3)

  -- guarded mean elements have a position, at whatever distance, that is below 1.021 Earth radii
  pub record IsSinkingPosition : Type 0 where
    pub mean : MeanRecord
    pub is_mean : IsMean k pi t mean
    pub periodic : PeriodicRecord
    pub root : ℚ
    pub position : Vector
    pub unguarded : IsPositionUnguarded k mean periodic pi root position
    pub sinks : periodic.mrt <ℚ decimal 1021 3

-- some record of the set, with some pi, sinks at an instant, which is in seconds
pub record IsSinking (set : SetRecord) (at : ℚ) : Type 0 where
  pub pi : ℚ
  pub is_pi : IsPi pi
  pub constants : ConstRecord
  pub are_constants : IsConsts set pi constants
  pub sinks : IsSinkingMean constants pi (minutes_since_epoch set at) ⊎ IsSinkingPosition constants pi (minutes_since_epoch set at)
