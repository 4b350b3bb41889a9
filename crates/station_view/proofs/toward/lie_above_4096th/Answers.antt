use Rattle.std.proofs.Common.{arith}
use Rattle.std.proofs.lemmas.Int.{to_z-of_z}
use Rattle.station_view.proofs.RangeLemmas.{above_4096th, end_above}
use Rattle.station_view.proofs.toward.lie_above_4096th.Goals as goal

pub returns : goal.returns
returns c = (
  λ t. above_4096th c.args.bounds.lo (grind (arith, to_z-of_z, c.ends-low.ensures.low, t)),
  λ h. let end = end_above c.args.bounds.lo h in grind (arith, to_z-of_z, c.ends-low.ensures.low, end),
)
