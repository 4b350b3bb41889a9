-- The angles of an element set at its epoch in radians, each with one pair, and its drag term.
use Rattle.std.specs.Prelude.{◌≡◌}
use Rattle.exact.specs.Rational.{ℚ, ◌*ℚ◌}
use Rattle.sgp4_model.specs.Angle.{IsSinCos, Pair}
use Rattle.sgp4_model.specs.Degrees.{radians}
use Rattle.sgp4_model.specs.Numerals.{whole}
use Rattle.sgp4_model.specs.Records.{SetRecord}

-- the node o0, the argument of perigee w0, the mean anomaly m0, their pairs where they are used, and the drag term
pub record EpochRecord : Type 0 where
  pub o0 : ℚ
  pub w0 : ℚ
  pub m0 : ℚ
  pub of_w0 : Pair
  pub of_twice_w0 : Pair
  pub of_m0 : Pair
  pub bstar : ℚ

-- the record holds the angles of the set; twice the argument of perigee has a pair of its own
pub record IsAtEpoch (set : SetRecord) (pi : ℚ) (z : EpochRecord) : Type 0 where
  pub o0_is : z.o0 ≡ radians pi set.node
  pub w0_is : z.w0 ≡ radians pi set.argp
  pub m0_is : z.m0 ≡ radians pi set.anomaly
  pub w0_pair : IsSinCos pi z.w0 z.of_w0.sine z.of_w0.cosine
  pub twice_w0_pair : IsSinCos pi (whole 2 *ℚ z.w0) z.of_twice_w0.sine z.of_twice_w0.cosine
  pub m0_pair : IsSinCos pi z.m0 z.of_m0.sine z.of_m0.cosine
  pub bstar_is : z.bstar ≡ set.bstar
