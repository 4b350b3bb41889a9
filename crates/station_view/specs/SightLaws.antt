-- Laws of how far a satellite is from a station, and of grazing as a length.
use Rattle.std.specs.Prelude.{ℤ}
use Rattle.exact.specs.Rational.{ℚ, ◌≤ℚ◌}
use Rattle.sgp4_model.specs.Angle.{IsPi, part}
use Rattle.sgp4_model.specs.Grazing.{GrazesWithin}
use Rattle.sgp4_model.specs.Mask.{GrazesBy}
use Rattle.sgp4_model.specs.Numerals.{decimal}
use Rattle.sgp4_model.specs.Sight.{IsSight, SightRecord}
use Rattle.sgp4_model.specs.Solution.{SolutionRecord}
use Rattle.sgp4_model.specs.Vector.{Vector, inner_product}
use Rattle.station_file.specs.Rows.{IsStationRow, record_of_station}
use Rattle.station_file.specs.declared.row.StationRow.{StationRow}

-- a position whose square is at least so much is at least so far from each station
abbrev pub IsAtLeastFrom : ℚ → ℚ → Type 0
IsAtLeastFrom square least =
    (row : StationRow) (pi at : ℚ) (dut1 : ℤ) (r : Vector) (range : ℚ) (v : SightRecord) → IsStationRow row → IsPi pi →
    IsSight (record_of_station row) pi at dut1 r range v → square ≤ℚ inner_product r r → least ≤ℚ range

-- of a square of 1.069, at least 0.0325 Earth radii; of one of 1.04, at least 0.0183
pub record RangesAreLong : Type 0 where
  pub far : IsAtLeastFrom (decimal 1069 3) (decimal 325 4)
  pub near : IsAtLeastFrom (decimal 104 2) (decimal 183 4)

-- what grazes within 2^-15 Earth radii, at this range at least, grazes by b
abbrev pub GrazesWhereSharp : ℚ → ℚ → Type 0
GrazesWhereSharp least b = (s : SolutionRecord) → least ≤ℚ s.range → GrazesWithin (part 15) s → GrazesBy b s.sectors s.sight

-- by 0.001 at a range of at least 0.0325, and by 0.002 at one of at least 0.0183
pub record SharpGrazingIsGrazing : Type 0 where
  pub far : GrazesWhereSharp (decimal 325 4) (decimal 1 3)
  pub near : GrazesWhereSharp (decimal 183 4) (decimal 2 3)
