-- Laws of the orbit equations' solutions, as public functions promise them.
use Rattle.std.specs.Prelude.{◌≡◌, ℤ}
use Rattle.exact.specs.Rational.{ℚ, ◌+ℚ◌, ◌-ℚ◌, ◌*ℚ◌, ◌/ℚ◌, ◌^ℚ◌, abs_ℚ, zero_ℚ, one_ℚ, ◌≤ℚ◌, ◌<ℚ◌}
use Rattle.sgp4_model.specs.Angle.{IsPi, IsSinCos, Pair, part}
use Rattle.sgp4_model.specs.Light.{ShadowRecord}
use Rattle.sgp4_model.specs.LitSolution.{IsLitSolution}
use Rattle.sgp4_model.specs.MeanElements.{SecularRecord, IsMeanUnguarded}
use Rattle.sgp4_model.specs.Numerals.{IsDivisor}
use Rattle.sgp4_model.specs.OrbitRecords.{ConstRecord, MeanRecord}
use Rattle.sgp4_model.specs.Position.{PeriodicRecord, IsPositionUnguarded}
use Rattle.sgp4_model.specs.PositionAt.{IsPositionAt}
use Rattle.sgp4_model.specs.Records.{SetRecord, StationRecord}
use Rattle.sgp4_model.specs.Solution.{IsSolution, SolutionRecord}
use Rattle.sgp4_model.specs.Vector.{Vector}

-- mean elements, guarded or not, exist for all constants at every time, with each pi
abbrev pub MeanElementsExist : Type 0
MeanElementsExist = (k : ConstRecord) (pi t : ℚ) → IsPi pi → (s : SecularRecord) × ((m : MeanRecord) × IsMeanUnguarded k t s pi m)

-- where the lines before Kepler's equation leave an eccentricity vector whose components are at most 1 - 2^-48 in all, and a
-- semilatus rectum above 0, a position exists, whatever its distance
abbrev pub PositionExists : Type 0
PositionExists =
    (k : ConstRecord) (m : MeanRecord) (pi : ℚ) → IsPi pi → IsDivisor (m.am *ℚ (one_ℚ -ℚ m.em ^ℚ 2)) →
    ((turn : Pair) (ax ay : ℚ) → IsSinCos pi m.wm turn.sine turn.cosine → ax ≡ m.em *ℚ turn.cosine →
    ay ≡ m.em *ℚ turn.sine +ℚ one_ℚ /ℚ (m.am *ℚ (one_ℚ -ℚ m.em ^ℚ 2)) *ℚ k.aycof →
    (abs_ℚ ax +ℚ abs_ℚ ay ≤ℚ one_ℚ -ℚ part 48) × (zero_ℚ <ℚ m.am *ℚ (one_ℚ -ℚ (ax ^ℚ 2 +ℚ ay ^ℚ 2)))) →
    (root : ℚ) × ((q : PeriodicRecord) × ((r : Vector) × IsPositionUnguarded k m q pi root r))

-- where a set has a position at an instant, each station has a solution with it there, whatever its place, mask and offset
abbrev pub SolutionExists : Type 0
SolutionExists =
    (set : SetRecord) (row : StationRecord) (at : ℚ) (dut1 : ℤ) (r : Vector) → IsPositionAt set at r → (s : SolutionRecord) × IsSolution set row at dut1 s

-- and the set has a lit solution there
abbrev pub LitSolutionExists : Type 0
LitSolutionExists = (set : SetRecord) (at : ℚ) (r : Vector) → IsPositionAt set at r → (v : ShadowRecord) × IsLitSolution set at v
