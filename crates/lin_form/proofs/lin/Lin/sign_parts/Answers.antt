use Rattle.lin_form.proofs.PartLemmas.{below_by_negative}
use Rattle.lin_form.proofs.lin.Lin.sign_parts.Goals as goal

pub returns-clause-no : goal.returns-clause-no
returns-clause-no c h x k among = below_by_negative x (c.parts_above_0-2.ensures.above h _ (c.negate.ensures.covers h x k) among)
