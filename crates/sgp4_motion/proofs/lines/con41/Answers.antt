use Rattle.std.proofs.Common.{pos}
use Rattle.fixed_iv.proofs.Promises.{difference, number, product}
use Rattle.sgp4_motion.proofs.lines.con41.Goals as goal

pub returns : goal.returns
returns g c = record {
  gives = λ c2.
      let law = g.met.E.Enc.contained in
      let one = number (pos 1) 0 0 c.constant-one.ensures c.from_ratio.ensures tt tt tt in
      let three = number (pos 3) 0 0 c.constant-three.ensures c.from_ratio-2.ensures tt tt tt in
      difference law c.minus.ensures (product law c.times.ensures three c2) one;
}
