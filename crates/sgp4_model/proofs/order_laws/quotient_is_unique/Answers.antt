use Rattle.sgp4_model.proofs.Quotients.{quotient_is_unique}
use Rattle.sgp4_model.proofs.order_laws.quotient_is_unique.Goals as goal

pub returns : goal.returns
returns c = quotient_is_unique
