-- Laws of the recovery of the mean motion, as public functions promise them.
use Rattle.std.specs.Prelude.{pos}
use Rattle.exact.specs.Rational.{ℚ, ratio, zero_ℚ, ◌≤ℚ◌, ◌<ℚ◌}
use Rattle.sgp4_model.specs.Angle.{IsPi}
use Rattle.sgp4_model.specs.MeanMotion.{MotionRecord, IsMotionRecovered}
use Rattle.sgp4_model.specs.Numerals.{whole}
use Rattle.sgp4_model.specs.Records.{SetRecord}

-- an element set whose eccentricity is at most 0.2 and whose mean motion is at most 17 revolutions a day has a recovered
-- motion, with each pi
abbrev pub RecoveredMotionExists : Type 0
RecoveredMotionExists =
    (set : SetRecord) (pi : ℚ) → IsPi pi → zero_ℚ ≤ℚ set.ecc → set.ecc ≤ℚ ratio (pos 1) 5 → zero_ℚ <ℚ set.motion → set.motion ≤ℚ whole 17 →
    (m : MotionRecord) × IsMotionRecovered set pi m
