use Rattle.std.proofs.Common.{pos}
use Rattle.fixed_iv.proofs.Promises.{difference, number, product, sum}
use Rattle.sgp4_motion.proofs.lines.corrected_axis.Goals as goal

pub returns : goal.returns
returns g c = record {
  gives = λ a1 de1.
      let law = g.met.E.Enc.contained in
      let one = number (pos 1) 0 0 c.constant-one.ensures c.from_ratio.ensures tt tt tt in
      let third = number (pos 1) 2 1 c.constant-third.ensures c.from_ratio-2.ensures tt tt tt in
      let cubic = number (pos 134) 80 1 c.constant-cubic.ensures c.from_ratio-3.ensures tt tt tt in
      let square = product law c.times-square.ensures de1 de1 in
      let slope = sum law c.plus-slope.ensures third (product law c.times.ensures cubic square) in
      let rest = difference law c.minus.ensures one square in
      product law c.times-3.ensures a1 (difference law c.minus-2.ensures rest (product law c.times-2.ensures de1 slope));
}
