use Rattle.fixed_iv.proofs.HeldLemmas.{holds_difference}
use Rattle.lin_form.proofs.LinLemmas.{difference_on}
use Rattle.lin_form.proofs.lin.LinEnc.minus.Goals as goal

pub returns-clause-covers : goal.returns-clause-covers
returns-clause-covers c h x y k l =
    c.along.ensures h _ _ _ (holds_difference c.sub-3.ensures k.ranged l.ranged) (holds_difference c.sub.ensures k.centred l.centred)
    (holds_difference c.sub-2.ensures k.sloped l.sloped) (difference_on h _ _ _ _ k.is l.is)
