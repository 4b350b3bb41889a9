use Rattle.decimals.proofs.SignificantLemmas.{short_zero, long_then}
use Rattle.decimals.proofs.significant.Significant.then.Goals as goal

pub returns-in-Long-clause-keeps : goal.returns-in-Long-clause-keeps
returns-in-Long-clause-keeps c = λ n h. long_then n c.args.digit c.requires.digit (rw c.in-Long.is at h)

pub returns-then-digit-eq0-clause-keeps : goal.returns-then-digit-eq0-clause-keeps
returns-then-digit-eq0-clause-keeps c = λ n h. short_zero n c.in-Short.digits c.in-Short.zeros c.args.digit c.if-digit-eq0.true (rw c.in-Short.is at h)
