-- Time from the epoch of an element set.
use Rattle.std.specs.Prelude.{pos}
use Rattle.exact.specs.Rational.{ℚ, ◌-ℚ◌, ◌*ℚ◌, ratio}
use Rattle.sgp4_model.specs.Records.{SetRecord}
use Rattle.sgp4_model.specs.Time.{instant_of_nanos}

-- the minutes from the epoch of a set to an instant, which is in seconds
abbrev pub minutes_since_epoch : SetRecord → ℚ → ℚ
minutes_since_epoch set at = (at -ℚ instant_of_nanos set.epoch) *ℚ ratio (pos 1) 60
