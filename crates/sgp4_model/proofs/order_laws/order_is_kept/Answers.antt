use Rattle.exact.proofs.Bounds.{add_le_add, mul_le_mul_right}
use Rattle.sgp4_model.proofs.order_laws.order_is_kept.Goals as goal

pub returns-clause-sums : goal.returns-clause-sums
returns-clause-sums c _ _ _ _ h k = add_le_add h k

pub returns-clause-products : goal.returns-clause-products
returns-clause-products c _ _ t n h = mul_le_mul_right t n h
