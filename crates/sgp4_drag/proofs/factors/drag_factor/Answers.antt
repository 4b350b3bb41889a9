use Rattle.std.proofs.Common.{pos}
use Rattle.fixed_iv.proofs.Promises.{difference, number, product}
use Rattle.sgp4_drag.proofs.factors.drag_factor.Goals as goal

pub returns : goal.returns
returns g c = record {
  gives = λ c1 d2 d3 d4 t t2 t3 t4.
      let law = g.met.E.Enc.contained in
      let one = number (pos 1) 0 0 c.constant-one.ensures c.from_ratio.ensures tt tt tt in
      let first = difference law c.minus.ensures one (product law c.times.ensures c1 t) in
      let second = difference law c.minus-2.ensures first (product law c.times-2.ensures d2 t2) in
      let third = difference law c.minus-3.ensures second (product law c.times-3.ensures d3 t3) in
      difference law c.minus-4.ensures third (product law c.times-4.ensures d4 t4);
}
