use Rattle.std.proofs.Common.{◌∙◌, ap, subst, sym}
use Rattle.exact.specs.Rational.{◌*ℚ◌}
use Rattle.fixed_iv.specs.Holds.{Holds}
use Rattle.fixed_iv.proofs.HeldLemmas.{holds_product, holds_sum}
use Rattle.lin_form.specs.Covered.{IsCovered}
use Rattle.lin_form.proofs.LinLemmas.{commuted, middle_is, product_on}
use Rattle.lin_form.proofs.lin.LinEnc.times.Goals as goal

pub returns-then-is_zero-clause-covers : goal.returns-then-is_zero-clause-covers
returns-then-is_zero-clause-covers c h x y k l =
    let e = ap (λ t. t *ℚ y) (middle_is h k.is (c.is_zero.ensures c.if-is_zero.true k.slope k.sloped)) in
    subst (IsCovered c.scaled.result h) (sym e)
    (c.scaled.ensures h y k.middle l k.centred (subst (Holds c.product_range-range.result) e (c.product_range-range.ensures h x y k l)))

pub returns-then-is_zero-2-clause-covers : goal.returns-then-is_zero-2-clause-covers
returns-then-is_zero-2-clause-covers c h x y k l =
    let e = ap (λ t. x *ℚ t) (middle_is h l.is (c.is_zero-2.ensures c.if-is_zero-2.true l.slope l.sloped)) ∙ commuted x l.middle in
    subst (IsCovered c.scaled-then-is_zero-2.result h) (sym e)
    (c.scaled-then-is_zero-2.ensures h x l.middle k l.centred (subst (Holds c.product_range-range.result) e (c.product_range-range.ensures h x y k l)))

pub returns-clause-covers : goal.returns-clause-covers
returns-clause-covers c h x y k l =
    let bend = holds_product c.mul-bend.ensures k.sloped l.sloped in
    let slope = holds_sum c.add-slope.ensures (holds_product c.mul.ensures k.centred l.sloped) (holds_product c.mul-2.ensures k.sloped l.centred) in
    let centre = holds_sum c.add-centre.ensures (holds_product c.mul-3.ensures k.centred l.centred) (c.bent.ensures h _ bend) in
    c.along.ensures h _ _ _ (c.product_range-range.ensures h x y k l) centre slope (product_on h _ _ _ _ k.is l.is)
