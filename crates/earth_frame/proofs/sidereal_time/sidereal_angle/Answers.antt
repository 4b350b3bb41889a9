use Rattle.std.proofs.Common.{arith, subst}
use Rattle.exact.specs.Rational.{of_int}
use Rattle.fixed_iv.proofs.HeldLemmas.{holds_product}
use Rattle.earth_frame.proofs.AngleLemmas.{angle_is, angle_within, least, pi_slim, rate_holds, rate_slim}
use Rattle.earth_frame.proofs.OffsetLemmas.{kept_base}
use Rattle.earth_frame.proofs.SlimLemmas.{slim_product, slim_wider}
use Rattle.sgp4_model.specs.Angle.{least_pi}
use Rattle.earth_frame.proofs.SpreadLemmas.{constant_slim, product_slim, sum_slim, unit_slim}
use Rattle.earth_frame.proofs.sidereal_time.sidereal_angle.Goals as goal

pub returns-clause-covers : goal.returns-clause-covers
returns-clause-covers g c h p x pi k =
    let inside = g.met.E.Enc.contained c.args.t h x k in
    let slow = rw (kept_base c.args.base c.requires) at (c.slow_half_turns.ensures.holds x (rw c.bounds.ensures inside)) in
    let rest = holds_product c.mul-rest.ensures (c.pi.ensures.holds p pi) slow.holds in
    let turned = c.constant-2.ensures.covers h _ (rate_holds c.turn_rate.result p c.turn_rate.ensures.low c.turn_rate.ensures.high pi) in
    let sum = c.plus.ensures.covers h _ _ (c.constant.ensures.covers h _ rest) (c.times.ensures.covers h _ x turned k) in
    record { turns = slow.turns; covered = subst (g.E.Enc.covers c.plus.result h) (angle_is p (of_int slow.turns) c.args.base x) sum }

pub returns-clause-narrow : goal.returns-clause-narrow
returns-clause-narrow g c h x k told one =
    let law = g.met.E.Enc.contained in
    let inside = law c.args.t h x k in
    let slow = c.slow_half_turns.ensures.holds x (rw c.bounds.ensures inside) in
    let rest = holds_product c.mul-rest.ensures (c.pi.ensures.holds least_pi least) slow.holds in
    let turned = rate_holds c.turn_rate.result least_pi c.turn_rate.ensures.low c.turn_rate.ensures.high least in
    let steady = c.constant-2.ensures.covers h _ turned in
    let term = c.times.ensures.covers h _ x steady k in
    let start = c.constant.ensures.covers h _ rest in
    let w = (g.E.Enc.extent c.args.t).spread in
    let slow_slim = slim_wider (rw c.bounds.ensures one.measured.width) (c.slow_half_turns.ensures.slim (rw c.bounds.ensures one.unit)) in
    let rest_slim = slim_product 1768560059217845 26070 7 c.mul-rest.ensures (pi_slim w c.pi.result c.pi.ensures.holds c.pi.ensures.width c.pi.ensures.bounded) slow_slim (omega arith) (omega arith) (omega arith) (omega arith) in
    let start_slim = constant_slim 3940649673976 (c.constant.ensures.narrow told) rest_slim (omega arith) rest (law c.constant.result h _ start) one.most (omega arith) in
    let rate_at = constant_slim 1 (c.constant-2.ensures.narrow told) (rate_slim w c.turn_rate.result c.turn_rate.ensures.low c.turn_rate.ensures.high) (omega arith) turned (law c.constant-2.result h _ steady) one.most (omega arith) in
    let term_slim = product_slim 20177369240802045 3000 71685 40355067411006754 (c.times.ensures.narrow told) rate_at (unit_slim one) (law c.constant-2.result h _ steady) inside (law c.times.result h _ term) (omega arith) (omega arith) (omega arith) (omega arith) one.most (omega arith) in
    angle_within (sum_slim 40359008060680729 (c.plus.ensures.narrow told) start_slim term_slim (law c.constant.result h _ start) (law c.times.result h _ term) (law c.plus.result h _ (c.plus.ensures.covers h _ _ start term)) (omega arith) one.most (omega arith))
