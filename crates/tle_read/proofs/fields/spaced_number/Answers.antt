use Rattle.tle_read.proofs.NumberLemmas.{below_power}
use Rattle.tle_read.proofs.fields.spaced_number.Goals as goal

pub returns-clause-bound : goal.returns-clause-bound
returns-clause-bound c = below_power _ _ _ c.number.ensures.bound c.without_spaces-digits.ensures.len
