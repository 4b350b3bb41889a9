use Rattle.fixed_iv.proofs.HeldLemmas.{holds_negative}
use Rattle.lin_form.proofs.LinLemmas.{negative_on}
use Rattle.lin_form.proofs.lin.LinEnc.negate.Goals as goal

pub returns-clause-covers : goal.returns-clause-covers
returns-clause-covers c h x k =
    c.along.ensures h _ _ _ (holds_negative c.neg-3.ensures k.ranged) (holds_negative c.neg.ensures k.centred) (holds_negative c.neg-2.ensures k.sloped) (negative_on h _ _ k.is)
