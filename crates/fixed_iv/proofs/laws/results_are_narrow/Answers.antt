use Rattle.fixed_iv.proofs.NarrowLemmas.{difference_narrow, measured_of, product_narrow, sum_narrow}
use Rattle.fixed_iv.proofs.QuotientWidthLemmas.{quotient_narrow}
use Rattle.fixed_iv.proofs.laws.results_are_narrow.Goals as goal

pub returns-clause-sums : goal.returns-clause-sums
returns-clause-sums c a b _ t p q k = (sum_narrow t).spread (measured_of a p, measured_of b q) k

pub returns-clause-differences : goal.returns-clause-differences
returns-clause-differences c a b _ t p q k = (difference_narrow t).spread (measured_of a p, measured_of b q) k

pub returns-clause-products : goal.returns-clause-products
returns-clause-products c a b _ t p q k = (product_narrow t).spread (measured_of a p, measured_of b q) k

pub returns-clause-quotients : goal.returns-clause-quotients
returns-clause-quotients c a b _ m n t p q s k = (quotient_narrow t m n).spread ((measured_of a p, measured_of b q), s) k
