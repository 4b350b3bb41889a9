use Rattle.std.proofs.Common.{inl, inr}
use Rattle.fixed_iv.proofs.HeldLemmas.{holds_difference, holds_sum}
use Rattle.lin_form.proofs.BandLemmas.{mean_of_ends}
use Rattle.lin_form.proofs.LinLemmas.{line_on}
use Rattle.lin_form.proofs.lin.LinEnc.line.Goals as goal

pub returns-clause-covers : goal.returns-clause-covers
returns-clause-covers c h x y p q =
    c.along.ensures h _ _ _ (mean_of_ends h (c.hull.ensures.holds x (inl p)) (c.hull.ensures.holds y (inr q)))
    (c.halved.ensures _ (holds_sum c.add.ensures p q)) (c.halved-2.ensures _ (holds_difference c.sub.ensures q p)) (line_on h x y)
