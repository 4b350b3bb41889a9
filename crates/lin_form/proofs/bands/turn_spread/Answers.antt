use Rattle.fixed_iv.proofs.HeldLemmas.{holds_product, holds_sum}
use Rattle.lin_form.proofs.BandLemmas.{first_place, last_place, spread_held, third_held, units_held}
use Rattle.lin_form.proofs.bands.turn_spread.Goals as goal

pub returns : goal.returns
returns c s e k half near =
    let third = third_held c.from_ends.ensures.low c.from_ends.ensures.high in
    let cube = holds_product c.mul-sixth_cube.ensures third (holds_product c.mul.ensures half k) in
    spread_held s e (λ u p q. holds_sum c.add.ensures cube (units_held u c.from_ends-2.ensures.low c.from_ends-2.ensures.high p q))
    (λ m held. (c.swept.ensures first_place m held, c.swept.ensures last_place m held)) near
