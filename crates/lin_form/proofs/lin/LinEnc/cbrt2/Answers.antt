use Rattle.sgp4_model.proofs.RootExists.{cube_root_exists}
use Rattle.fixed_iv.proofs.HeldLemmas.{holds_difference, holds_product, holds_quotient, holds_sum}
use Rattle.lin_form.proofs.LinLemmas.{cube_off_near, cube_on}
use Rattle.lin_form.proofs.lin.LinEnc.cbrt2.Goals as goal

pub returns-then-not-is_positive-clause-covers : goal.returns-then-not-is_positive-clause-covers
returns-then-not-is_positive-clause-covers c h x r root k = c.level.ensures h r (c.cbrt2-range.ensures.holds x r k.ranged root)

pub returns-clause-covers : goal.returns-clause-covers
returns-clause-covers c h x r root k =
    let own = cube_root_exists k.middle (c.is_positive.ensures c.if-not-is_positive.false k.middle k.centred) in
    let t = own.0 in
    let held = c.cbrt2-range.ensures.holds x r k.ranged root in
    let middle = c.cbrt2-root.ensures.holds k.middle t k.centred own.1 in
    let twice = holds_sum c.add-twice.ensures middle middle in
    let steep = holds_product c.mul-steep.ensures (holds_sum c.add.ensures twice middle) middle in
    let rise = holds_product c.mul-rise.ensures k.centred k.sloped in
    let bend = c.bent.ensures h _ (c.square.ensures _ k.sloped) in
    let off = holds_sum c.add-2.ensures bend (c.tolerance.ensures _ (cube_off_near root own.1)) in
    let far = holds_product c.mul.ensures (c.square-2.ensures _ (holds_difference c.sub.ensures held middle)) (holds_sum c.add-3.ensures twice held) in
    let rest = holds_difference c.sub-rest.ensures off far in
    c.along.ensures h r _ _ held (holds_sum c.add-4.ensures middle (holds_quotient c.div.ensures rest steep))
    (holds_quotient c.div-2.ensures (holds_sum c.add-5.ensures rise rise) steep)
    (cube_on h k.middle k.slope r t (c.is_positive-else-not-is_positive.ensures c.if-not-is_positive-2.false t middle) k.is)
