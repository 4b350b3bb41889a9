use Rattle.std.proofs.Common.{◌∙◌, sym}
use Rattle.decimals.proofs.NormalLemmas.{shortest-zero, shortest-stop, shortest-whole}
use Rattle.decimals.proofs.shortest.shortest.Goals as goal

pub loop-left-preserved : goal.loop-left-preserved
loop-left-preserved c = sym (shortest-zero c.loop-left.rest c.loop-left.left c.loop-left-test.true c.if-rest-eq0.true) ∙ c.loop-left.invariant

pub returns-else-rest-eq0 : goal.returns-else-rest-eq0
returns-else-rest-eq0 c = sym (shortest-stop c.loop-left.rest c.loop-left.left c.if-rest-eq0.false) ∙ c.loop-left.invariant

pub returns-after-loop-left : goal.returns-after-loop-left
returns-after-loop-left c = sym (shortest-whole c.loop-left.rest c.loop-left.left c.loop-left-test.false) ∙ c.loop-left.invariant
