-- What is known of the exact quantities of a position, beyond what numerals of its constants and mean elements say.
use Rattle.std.specs.Prelude.{Bool, ℕ}
use Rattle.exact.specs.Interval.{Inside, Interval}
use Rattle.kepler_enc.specs.Guess.{AreSized}
use Rattle.sgp4_model.specs.Position.{PeriodicRecord}

-- If anything is known: how many units of 2^-48 the sizes of ax and ay add up to at most, and ranges of ec, of su and
-- cu, and of the sine of du.
pub record PositionBox : Type 0 where
  pub known : Bool
  pub vector : ℕ
  pub inner : Interval
  pub latitude : Interval
  pub change : Interval

-- the quantities lie in them
pub record IsInBox (q : PeriodicRecord) (b : PositionBox) : Type 0 where
  pub vector : AreSized b.vector q.ax q.ay
  pub inner : Inside b.inner q.ec
  pub su : Inside b.latitude q.su
  pub cu : Inside b.latitude q.cu
  pub change : Inside b.change q.of_du.sine
