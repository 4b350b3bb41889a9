use Rattle.fixed_iv.proofs.HeldLemmas.{holds_sum}
use Rattle.lin_form.proofs.LinLemmas.{sum_on}
use Rattle.lin_form.proofs.lin.LinEnc.plus.Goals as goal

pub returns-clause-covers : goal.returns-clause-covers
returns-clause-covers c h x y k l =
    c.along.ensures h _ _ _ (holds_sum c.add-3.ensures k.ranged l.ranged) (holds_sum c.add.ensures k.centred l.centred) (holds_sum c.add-2.ensures k.sloped l.sloped) (sum_on h _ _ _ _ k.is l.is)
