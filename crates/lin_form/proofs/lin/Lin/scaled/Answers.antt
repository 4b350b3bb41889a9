use Rattle.fixed_iv.proofs.HeldLemmas.{holds_product}
use Rattle.lin_form.proofs.LinLemmas.{scaled_on}
use Rattle.lin_form.proofs.lin.Lin.scaled.Goals as goal

pub returns-then-is_zero : goal.returns-then-is_zero
returns-then-is_zero c h x f k of_factor ranged = c.level.ensures h _ ranged

pub returns : goal.returns
returns c h x f k of_factor ranged =
    c.along.ensures h _ _ _ ranged (holds_product c.mul.ensures k.centred of_factor) (holds_product c.mul-2.ensures k.sloped of_factor) (scaled_on h _ _ f k.is)
