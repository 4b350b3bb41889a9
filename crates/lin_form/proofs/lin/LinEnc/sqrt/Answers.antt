use Rattle.exact.proofs.Strict.{le_of_lt}
use Rattle.sgp4_model.proofs.RootExists.{square_root_exists}
use Rattle.fixed_iv.proofs.HeldLemmas.{holds_difference, holds_quotient, holds_sum}
use Rattle.lin_form.proofs.LinLemmas.{root_on, square_off_near}
use Rattle.lin_form.proofs.lin.LinEnc.sqrt.Goals as goal

pub returns-then-not-is_positive-clause-covers : goal.returns-then-not-is_positive-clause-covers
returns-then-not-is_positive-clause-covers c h x r root k = c.level.ensures h r (c.sqrt-range.ensures.holds x r k.ranged root)

pub returns-clause-covers : goal.returns-clause-covers
returns-clause-covers c h x r root k =
    let own = square_root_exists k.middle (le_of_lt (c.is_positive.ensures c.if-not-is_positive.false k.middle k.centred)) in
    let t = own.0 in
    let held = c.sqrt-range.ensures.holds x r k.ranged root in
    let middle = c.sqrt-root.ensures.holds k.middle t k.centred own.1 in
    let twice = holds_sum c.add-twice.ensures middle middle in
    let rest = holds_difference c.sub-rest.ensures (c.tolerance.ensures _ (square_off_near h k.slope k.is root own.1)) (c.square.ensures _ (holds_difference c.sub.ensures held middle)) in
    c.along.ensures h r _ _ held (holds_sum c.add.ensures middle (holds_quotient c.div.ensures rest twice)) (holds_quotient c.div-2.ensures k.sloped twice)
    (root_on h k.slope r t (c.is_positive-else-not-is_positive.ensures c.if-not-is_positive-2.false t middle))
