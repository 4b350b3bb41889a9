use Rattle.exact.proofs.Bounds.{product_above, product_below}
use Rattle.sgp4_model.proofs.order_laws.corners_bound_products.Goals as goal

pub returns-clause-below : goal.returns-clause-below
returns-clause-below c _ _ _ _ _ _ _ = product_above

pub returns-clause-above : goal.returns-clause-above
returns-clause-above c _ _ _ _ _ _ _ = product_below
