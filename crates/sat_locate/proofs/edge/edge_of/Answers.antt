use Rattle.std.proofs.Common.{arith}
use Rattle.std.proofs.lemmas.Int.{ints}
use Rattle.sat_locate.proofs.EdgeLemmas.{between_edges}
use Rattle.sat_locate.proofs.edge.edge_of.Goals as goal

pub returns-clause-holds : goal.returns-clause-holds
returns-clause-holds c x held =
    between_edges x c.requires (grind (arith, ints, c.ends-low.ensures.low, c.millimetres_below.ensures.below)) (grind (arith, ints, c.ends-low.ensures.high, c.millimetres_above.ensures.above)) held
