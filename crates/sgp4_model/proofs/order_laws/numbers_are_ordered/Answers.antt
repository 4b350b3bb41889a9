use Rattle.exact.proofs.Bounds.{le_total}
use Rattle.exact.proofs.Order.{le_antisym, le_trans}
use Rattle.sgp4_model.proofs.order_laws.numbers_are_ordered.Goals as goal

pub returns-clause-total : goal.returns-clause-total
returns-clause-total c = le_total

pub returns-clause-antisymmetric : goal.returns-clause-antisymmetric
returns-clause-antisymmetric c x y h k = le_antisym h k

pub returns-clause-transitive : goal.returns-clause-transitive
returns-clause-transitive c x y z h k = le_trans h k
