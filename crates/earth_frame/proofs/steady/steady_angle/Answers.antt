use Rattle.std.proofs.Common.{arith, subst}
use Rattle.exact.specs.Rational.{of_int}
use Rattle.sgp4_model.specs.Angle.{least_pi}
use Rattle.fixed_iv.proofs.HeldLemmas.{holds_product}
use Rattle.earth_frame.proofs.AngleLemmas.{least, pi_slim, turned_is}
use Rattle.earth_frame.proofs.SlimLemmas.{slim_product, slim_turn}
use Rattle.earth_frame.proofs.SpreadLemmas.{constant_slim, product_slim, sum_slim, unit_slim}
use Rattle.earth_frame.proofs.steady.steady_angle.Goals as goal

pub returns-clause-covers : goal.returns-clause-covers
returns-clause-covers g c h p x a r pi k start rate =
    let begin = c.constant-begin.ensures.covers h _ (holds_product c.mul.ensures (c.pi.ensures.holds p pi) start.holds) in
    let growth = c.constant.ensures.covers h _ (holds_product c.mul-2.ensures (c.pi-2.ensures.holds p pi) rate) in
    let sum = c.plus.ensures.covers h _ _ begin (c.times.ensures.covers h _ x growth k) in
    record { turns = start.turns; covered = subst (g.E.Enc.covers c.plus.result h) (turned_is p a r x (of_int start.turns)) sum }

pub returns-clause-narrow : goal.returns-clause-narrow
returns-clause-narrow g c a r start rate within slim h x k told one =
    let law = g.met.E.Enc.contained in
    let w = (g.E.Enc.extent c.args.t).spread in
    let inside = law c.args.t h x k in
    let at_start = holds_product c.mul.ensures (c.pi.ensures.holds least_pi least) start.holds in
    let at_rate = holds_product c.mul-2.ensures (c.pi-2.ensures.holds least_pi least) rate in
    let begin = c.constant-begin.ensures.covers h _ at_start in
    let growth = c.constant.ensures.covers h _ at_rate in
    let term = c.times.ensures.covers h _ x growth k in
    let start_slim = slim_product 1768559438007114 10284 0 c.mul.ensures (pi_slim w c.pi.result c.pi.ensures.holds c.pi.ensures.width c.pi.ensures.bounded) (slim_turn within) (omega arith) (omega arith) (omega arith) (omega arith) in
    let rate_slim = slim_product 55092970250031 8346 0 c.mul-2.ensures (pi_slim w c.pi-2.result c.pi-2.ensures.holds c.pi-2.ensures.width c.pi-2.ensures.bounded) slim (omega arith) (omega arith) (omega arith) (omega arith) in
    let begin_slim = constant_slim 11 (c.constant-begin.ensures.narrow told) start_slim (omega arith) at_start (law c.constant-begin.result h _ begin) one.most (omega arith) in
    let growth_slim = constant_slim 9 (c.constant.ensures.narrow told) rate_slim (omega arith) at_rate (law c.constant.result h _ growth) one.most (omega arith) in
    let term_slim = product_slim 55092970250040 10346 196 110338190870588 (c.times.ensures.narrow told) growth_slim (unit_slim one) (law c.constant.result h _ growth) inside (law c.times.result h _ term) (omega arith) (omega arith) (omega arith) (omega arith) one.most (omega arith) in
    sum_slim 110338190870598 (c.plus.ensures.narrow told) begin_slim term_slim (law c.constant-begin.result h _ begin) (law c.times.result h _ term) (law c.plus.result h _ (c.plus.ensures.covers h _ _ begin term)) (omega arith) one.most (omega arith)
