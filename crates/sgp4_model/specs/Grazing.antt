-- When a solution of a set and a station is above the mask, below it, or grazes it; and the track of their pair.
use Rattle.std.specs.Prelude.{ℕ, ℤ}
use Rattle.exact.specs.Rational.{ℚ, ◌/ℚ◌}
use Rattle.sgp4_model.specs.Angle.{part}
use Rattle.sgp4_model.specs.Certified.{TrackRecord}
use Rattle.sgp4_model.specs.EachSolution.{OfEach}
use Rattle.sgp4_model.specs.Mask.{GrazesBy, IsAbove, IsBelow}
use Rattle.sgp4_model.specs.Numerals.{decimal}
use Rattle.sgp4_model.specs.Records.{SetRecord, StationRecord}
use Rattle.sgp4_model.specs.Simple.{IsSimple}
use Rattle.sgp4_model.specs.Sinking.{IsSinking}
use Rattle.sgp4_model.specs.Solution.{IsSolution, SolutionRecord}
use Rattle.sgp4_model.specs.Time.{instant_of_place}

-- the solution is above its mask, or below it
abbrev pub IsVisible : SolutionRecord → Type 0
IsVisible s = IsAbove s.sectors s.sight

abbrev pub IsHidden : SolutionRecord → Type 0
IsHidden s = IsBelow s.sectors s.sight

-- the satellite is within a length, in Earth radii, of its mask: it grazes by this length as it is seen at the range
abbrev pub GrazesWithin : ℚ → SolutionRecord → Type 0
GrazesWithin length s = GrazesBy (length /ℚ s.range) s.sectors s.sight

-- the solution grazes its mask: by 0.002 where its constants are simple, else by 0.001; and within 2^-15 Earth radii, which
-- are 195 metres
pub record GrazesMask (s : SolutionRecord) : Type 0 where
  pub simple : IsSimple s.constants → GrazesBy (decimal 2 3) s.sectors s.sight
  pub other : ¬ IsSimple s.constants → GrazesBy (decimal 1 3) s.sectors s.sight
  pub sharp : GrazesWithin (part 15) s

-- at a place of the window that starts so many nanoseconds from 2000-01-01T12:00:00 UTC there is a solution, and a fact holds
-- of each one
abbrev pub EachSolution : SetRecord → StationRecord → ℤ → ℤ → (SolutionRecord → Type 0) → ℚ → Type 0
EachSolution set row start dut1 holds place = OfEach (IsSolution set row (instant_of_place start place) dut1) holds

-- the track of a pair: at a place of the window each solution is above, is below, or grazes; or some record of the set sinks
-- there
abbrev pub pair_track : SetRecord → StationRecord → ℤ → ℤ → ℕ → TrackRecord
pair_track set row start dut1 ticks = record {
  ticks = ticks;
  yes = EachSolution set row start dut1 IsVisible;
  no = EachSolution set row start dut1 IsHidden;
  grazes = EachSolution set row start dut1 GrazesMask;
  sinks = λ place. IsSinking set (instant_of_place start place);
}
