-- Solutions from their parts, in the order of the equations: such numbers are a solution.
use Rattle.std.specs.Prelude.{◌≡◌, ℤ, pos, ◌∷◌, []}
use Rattle.exact.specs.Rational.{ℚ, ◌+ℚ◌, ◌-ℚ◌, ◌*ℚ◌, ratio}
use Rattle.sgp4_model.specs.Angle.{Pair}
use Rattle.sgp4_model.specs.DaySolution.{IsDaySolution}
use Rattle.sgp4_model.specs.LitSolution.{IsLitSolution}
use Rattle.sgp4_model.specs.OrbitRecords.{ConstRecord, MeanRecord}
use Rattle.sgp4_model.specs.Records.{SetRecord, StationRecord}
use Rattle.sgp4_model.specs.Sectors.{SectorPairs, sides_of}
use Rattle.sgp4_model.specs.Solution.{IsSolution}
use Rattle.sgp4_model.specs.Sun.{IsSun}
use Rattle.sgp4_model.specs.Vector.{Vector}
use Rattle.rows_model.specs.Contacts.{Contact, IsContact, east, north, up}
use Rattle.rows_model.specs.Headline.{IsSeen, elevation}
use Rattle.rows_model.specs.Instants.{IsPairAt}
use Rattle.rows_model.specs.Sunlight.{IsLit, depth, over}

-- pairs of the Sun's angles make its direction
abbrev pub PairsMakeASun : Type 0
PairsMakeASun =
    (pi at : ℚ) (g twice la ep : Pair) →
    IsPairAt pi (ratio (pos 357528) 1000 +ℚ ratio (pos 9856003) 10000000 *ℚ (at *ℚ ratio (pos 1) 86400)) g →
    IsPairAt pi (ratio (pos 2) 1 *ℚ (ratio (pos 357528) 1000 +ℚ ratio (pos 9856003) 10000000 *ℚ (at *ℚ ratio (pos 1) 86400))) twice →
    IsPairAt pi (ratio (pos 280460) 1000 +ℚ ratio (pos 9856474) 10000000 *ℚ (at *ℚ ratio (pos 1) 86400) +ℚ ratio (pos 1915) 1000 *ℚ g.sine +ℚ ratio (pos 20) 1000 *ℚ twice.sine) la →
    IsPairAt pi (ratio (pos 23439) 1000 -ℚ ratio (pos 4) 10000000 *ℚ (at *ℚ ratio (pos 1) 86400)) ep →
    IsSun pi at (record { x = la.cosine; y = ep.cosine *ℚ la.sine; z = ep.sine *ℚ la.sine })

-- pairs and a Sun make a day solution
abbrev pub PairsMakeADay : Type 0
PairsMakeADay =
    (lat lon at : ℚ) (dut1 : ℤ) (pi : ℚ) (f l t : Pair) (s : Vector) → IsSeen lat lon at dut1 pi f l t s →
    IsDaySolution lat lon at dut1 (elevation f l t s)

-- a position and a Sun make a lit solution
abbrev pub PositionsMakeLight : Type 0
PositionsMakeLight =
    (set : SetRecord) (at pi : ℚ) (k : ConstRecord) (m : MeanRecord) (root : ℚ) (r s : Vector) → IsLit set at pi k m root r s →
    IsLitSolution set at (record { p = depth r s; g = over r s })

-- a contact makes a solution
abbrev pub ContactsMakeSolutions : Type 0
ContactsMakeSolutions =
    (c : Contact) (set : SetRecord) (row : StationRecord) (at : ℚ) (dut1 : ℤ) → IsContact c set row at dut1 →
    IsSolution set row at dut1 (record {
      constants = c.k;
      range = c.range;
      sight = record { east = east c; north = north c; up = up c };
      sectors = sides_of c.pairs;
    })

-- the sectors of three pairs: each ends where the next begins, and the last at the first border
abbrev pub ThreeSectorsGoRound : Type 0
ThreeSectorsGoRound =
    (a b c : SectorPairs) →
    sides_of (a ∷ b ∷ c ∷ []) ≡
    record { from = a.border; to = b.border; floor = a.floor.sine }
    ∷ record { from = b.border; to = c.border; floor = b.floor.sine }
    ∷ record { from = c.border; to = a.border; floor = c.floor.sine }
    ∷ []
