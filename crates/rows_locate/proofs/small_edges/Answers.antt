use Rattle.rows_locate.proofs.SmallAnswers.{small_edges}
use Rattle.rows_locate.proofs.small_edges.Goals as goal

pub returns : goal.returns
returns c = small_edges
