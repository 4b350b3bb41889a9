-- Numerals with a range that is known by other means, where anything is.
use Rattle.std.specs.Prelude.{Bool, ◌&&◌, T}
use Rattle.exact.specs.Rational.{◌*ℚ◌}
use Rattle.exact.specs.Interval.{Inside, Interval}
use Rattle.fixed_iv.specs.Reach.{Reach}
use Rattle.sgp4_model.specs.OrbitRecords.{ConstRecord}

-- r, where the value is known to lie in this range; nothing is said where nothing is known
abbrev pub expected : Bool → Reach → Interval → Reach
expected known r i = record { ok = known && r.ok; range = i; spread = r.spread }

-- a range for the drag term of the mean anomaly times the eccentricity that drag sees, if one is known
pub record DragBox : Type 0 where
  pub known : Bool
  pub bend : Interval

-- the product lies in it
abbrev pub IsInDragBox : ConstRecord → DragBox → Type 0
IsInDragBox k b = T b.known → Inside b.bend (k.xmcof *ℚ k.eta)
