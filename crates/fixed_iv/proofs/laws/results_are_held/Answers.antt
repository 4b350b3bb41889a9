use Rattle.fixed_iv.proofs.HeldLemmas.{holds_difference, holds_negative, holds_product, holds_quotient, holds_sum}
use Rattle.fixed_iv.proofs.laws.results_are_held.Goals as goal

pub returns-clause-sums : goal.returns-clause-sums
returns-clause-sums c _ _ _ _ _ h p q = holds_sum h p q

pub returns-clause-differences : goal.returns-clause-differences
returns-clause-differences c _ _ _ _ _ h p q = holds_difference h p q

pub returns-clause-negatives : goal.returns-clause-negatives
returns-clause-negatives c _ _ _ h p = holds_negative h p

pub returns-clause-products : goal.returns-clause-products
returns-clause-products c _ _ _ _ _ h p q = holds_product h p q

pub returns-clause-quotients : goal.returns-clause-quotients
returns-clause-quotients c _ _ _ _ _ h p q = holds_quotient h p q
