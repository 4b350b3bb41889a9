use Rattle.fixed_iv.proofs.HeldLemmas.{holds_difference, holds_product, holds_quotient}
use Rattle.lin_form.proofs.LinLemmas.{quotient_on}
use Rattle.lin_form.proofs.lin.LinEnc.divided.Goals as goal

pub returns-then-not-is_off_zero-clause-covers : goal.returns-then-not-is_off_zero-clause-covers
returns-then-not-is_off_zero-clause-covers c h x y k l off = c.level.ensures h _ (holds_quotient c.div-range.ensures k.ranged l.ranged)

pub returns-clause-covers : goal.returns-clause-covers
returns-clause-covers c h x y k l off =
    let quotient = holds_quotient c.div-quotient.ensures k.centred l.centred in
    let slope = holds_quotient c.div-slope.ensures (holds_difference c.sub.ensures k.sloped (holds_product c.mul.ensures quotient l.sloped)) l.centred in
    let bend = holds_quotient c.div-bend.ensures (holds_product c.mul-2.ensures slope l.sloped) l.ranged in
    c.along.ensures h _ _ _ (holds_quotient c.div-range.ensures k.ranged l.ranged) (holds_difference c.sub-2.ensures quotient (c.bent.ensures h _ bend)) slope
    (quotient_on h _ _ _ _ (c.is_off_zero.ensures c.if-not-is_off_zero.false l.middle l.centred) off k.is l.is)
