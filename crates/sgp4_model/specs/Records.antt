-- Plain records: what the definitions see of an element set, a station and a row's answer.
use Rattle.std.specs.Prelude.{ℕ, ℤ, List}
use Rattle.exact.specs.Rational.{ℚ}

-- an element set: its epoch in nanoseconds from 2000-01-01T12:00:00 UTC, its mean motion in revolutions per day, its
-- angles in degrees, its drag term per Earth radius
pub record SetRecord : Type 0 where
  pub epoch : ℤ
  pub motion : ℚ
  pub ecc : ℚ
  pub incl : ℚ
  pub node : ℚ
  pub argp : ℚ
  pub anomaly : ℚ
  pub bstar : ℚ

-- a sector of an elevation mask: the azimuth at which it begins, and the least elevation in it, in degrees
pub record SectorRecord : Type 0 where
  pub border : ℚ
  pub floor : ℚ

-- a station: latitude and longitude in degrees, height in metres, and the sectors of its mask
pub record StationRecord : Type 0 where
  pub lat : ℚ
  pub lon : ℚ
  pub height : ℚ
  pub sectors : List SectorRecord

-- the answer of a row: so many spans; unresolved from one tick to another; full at a tick; or decaying at a tick
pub data AnswerRecord : Type 0 where
  spans : ℕ → AnswerRecord
  unresolved : ℕ → ℕ → AnswerRecord
  full : ℕ → AnswerRecord
  decays : ℕ → AnswerRecord
