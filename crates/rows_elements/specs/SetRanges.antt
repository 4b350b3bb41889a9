-- The tests of the ranges of element sets, and the ranges.
use Rattle.std.specs.Prelude.{Bool, ◌&&◌, ◌↔◌, IsTrue}
use Rattle.elements.specs.Elements.{ElementsRecord, IsElements}
use Rattle.elements.specs.Ranges.{is_motion, is_eccentricity, is_inclination, is_angle}

-- each number of a set passes its test
abbrev pub passes : ElementsRecord → Bool
passes e = is_motion e.motion && (is_eccentricity e.ecc && (is_inclination e.incl && (is_angle e.node && (is_angle e.argp && is_angle e.anomaly))))

-- the numbers of a set pass their tests exactly where they are in their ranges
abbrev pub TestsTellTheRanges : Type 0
TestsTellTheRanges = (e : ElementsRecord) → IsTrue (passes e) ↔ IsElements e
