use Rattle.std.proofs.Common.{arith}
use Rattle.rows_bisect.proofs.PlaceLemmas.{somewhere}
use Rattle.rows_bisect.proofs.listed.ListedJudge.judge.Goals as goal

pub returns-then-to-from-eq1-clause-sinks : goal.returns-then-to-from-eq1-clause-sinks
returns-then-to-from-eq1-clause-sinks c = λ _. (omega (arith, c.if-to-from-eq1.true, c.requires.not_empty), somewhere c.args.from c.args.to c.requires.not_empty)
