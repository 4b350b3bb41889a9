-- Two angles of at most 0.7854, as a pair of intervals for computed bounds.
use Rattle.std.proofs.Common.{List, [], ◌∷◌, pos, negsuc}
use Rattle.exact.specs.Rational.{ℚ, ratio, ◌≤ℚ◌}
use Rattle.exact.proofs.RationalRing.{reads}
use Rattle.exact.proofs.Order.{gap, le_by}
use Rattle.exact.specs.Interval.{Interval, between}
use Rattle.exact.proofs.Intervals.{AllInside, inside}
use Rattle.sgp4_model.proofs.Rests.{IsAngle}

-- from -0.7854 to 0.7854
abbrev range : Interval
range = between (negsuc 3926) 5000 (pos 3927) 5000

-- twice that
abbrev pub angle_box : List Interval
angle_box = range ∷ range ∷ []

-- the lower end, as one fraction
low : {y : ℚ} → IsAngle y → ratio (negsuc 3926) 5000 ≤ℚ y
low {y} h = le_by (y ∷ []) (gap h.low) (search reads depth 90) tt

-- two angles lie in the box
pub in_box : {y z : ℚ} → IsAngle y → IsAngle z → AllInside angle_box (y ∷ z ∷ [])
in_box h k = (inside _ _ _ _ (low h) h.high, (inside _ _ _ _ (low k) k.high, tt))
