-- Element sets as they were read, and the plain record of one.
use Rattle.std.specs.Prelude.{ℕ, ℤ, pos, neg_ℤ}
use Rattle.exact.specs.Rational.{ℚ, of_int, zero_ℚ, one_ℚ, ◌≤ℚ◌, ◌<ℚ◌}
use Rattle.decimals.specs.Decimal.{DecimalRecord, value}
use Rattle.sgp4_model.specs.Records.{SetRecord}

-- catalogue number, epoch in nanoseconds from 2000-01-01T12:00:00 UTC, mean motion in revolutions per day,
-- eccentricity, angles in degrees, drag term per Earth radius
pub record ElementsRecord : Type 0 where
  pub number : ℕ
  pub epoch : ℤ
  pub motion : DecimalRecord
  pub ecc : DecimalRecord
  pub incl : DecimalRecord
  pub node : DecimalRecord
  pub argp : DecimalRecord
  pub anomaly : DecimalRecord
  pub bstar : DecimalRecord

-- the number is from one whole number to another
pub record IsFromTo (low high : ℤ) (x : ℚ) : Type 0 where
  pub least : of_int low ≤ℚ x
  pub most : x ≤ℚ of_int high

-- the ranges of an element set
pub record IsElements (e : ElementsRecord) : Type 0 where
  pub motion : zero_ℚ <ℚ value e.motion
  pub ecc : zero_ℚ ≤ℚ value e.ecc
  pub ecc_below : value e.ecc <ℚ one_ℚ
  pub incl : IsFromTo (pos 0) (pos 180) (value e.incl)
  pub node : IsFromTo (neg_ℤ (pos 360)) (pos 360) (value e.node)
  pub argp : IsFromTo (neg_ℤ (pos 360)) (pos 360) (value e.argp)
  pub anomaly : IsFromTo (neg_ℤ (pos 360)) (pos 360) (value e.anomaly)

-- the plain record: the numbers that the decimals stand for
abbrev pub record_of_elements : ElementsRecord → SetRecord
record_of_elements e = record {
  epoch = e.epoch;
  motion = value e.motion;
  ecc = value e.ecc;
  incl = value e.incl;
  node = value e.node;
  argp = value e.argp;
  anomaly = value e.anomaly;
  bstar = value e.bstar;
}
