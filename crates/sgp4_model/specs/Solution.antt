-- The solutions of an element set and a station at an instant.
use Rattle.std.specs.Prelude.{◌≡◌, ℤ, List}
use Rattle.exact.specs.Rational.{ℚ}
use Rattle.sgp4_model.specs.Angle.{IsPi}
use Rattle.sgp4_model.specs.Constants.{IsConsts}
use Rattle.sgp4_model.specs.EpochTime.{minutes_since_epoch}
use Rattle.sgp4_model.specs.MeanElements.{IsMean}
use Rattle.sgp4_model.specs.OrbitRecords.{ConstRecord, MeanRecord}
use Rattle.sgp4_model.specs.Position.{IsPosition}
use Rattle.sgp4_model.specs.Records.{SetRecord, StationRecord}
use Rattle.sgp4_model.specs.Sectors.{AreMaskPairs, SectorPairs, SectorSides, sides_of}
use Rattle.sgp4_model.specs.Sight.{IsSight, SightRecord}
use Rattle.sgp4_model.specs.Vector.{Vector}

-- what a solution is judged by: its constants, the range and the direction of the satellite, and the sectors of the mask
pub record SolutionRecord : Type 0 where
  pub constants : ConstRecord
  pub range : ℚ
  pub sight : SightRecord
  pub sectors : List SectorSides

-- The record is a solution of the set and the station at an instant in seconds, where UT1 is so many milliseconds more than
-- UTC. One pi serves throughout, and one pair each border and each floor of the mask.
pub record IsSolution (set : SetRecord) (row : StationRecord) (at : ℚ) (dut1 : ℤ) (s : SolutionRecord) : Type 0 where
  pub pi : ℚ
  pub mean : MeanRecord
  pub root : ℚ
  pub position : Vector
  pub pairs : List SectorPairs
  pub is_pi : IsPi pi
  pub are_constants : IsConsts set pi s.constants
  pub is_mean : IsMean s.constants pi (minutes_since_epoch set at) mean
  pub is_position : IsPosition s.constants mean pi root position
  pub is_sight : IsSight row pi at dut1 position s.range s.sight
  pub are_pairs : AreMaskPairs pi row.sectors pairs
  pub sectors_are : s.sectors ≡ sides_of pairs
